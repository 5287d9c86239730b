use Rattle.std.proofs.Common.{refl, sym, ◌∙◌}
use Rattle.eql_part.proofs.Tables.{absent_at}
use Rattle.eql_part.proofs.single.room_for.Goals as goal

pub returns-then-not-has-clause-none : goal.returns-then-not-has-clause-none
returns-then-not-has-clause-none g c =
    ((sym c.has.ensures ∙ c.if-not-has.true, absent_at c.args.shape.stages c.args.shape.span c.args.machines.now c.args.route.now.key c.requires.table (sym c.find.ensures ∙ c.in-None.is)), refl)
