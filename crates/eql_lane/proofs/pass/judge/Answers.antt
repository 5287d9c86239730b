use Rattle.std.proofs.Common.{refl, sym, subst}
use Rattle.eql_lane.specs.Noting.{Locates}
use Rattle.eql_lane.proofs.pass.judge.Goals as goal

pub returns-then-not-ended-clause-refused : goal.returns-then-not-ended-clause-refused
returns-then-not-ended-clause-refused c front rest n at_end tested =
    (c.if-closed.true, c.if-not-ended.true, (c.in_default.ensures.located refl front rest n at_end).whole)

pub returns-clause-located : goal.returns-clause-located
returns-clause-located c front rest n at_end =
    subst (Locates front rest c.args.trace.notes.wanted) (sym c.into_places.ensures) (c.in_default.ensures.located refl front rest n at_end)
