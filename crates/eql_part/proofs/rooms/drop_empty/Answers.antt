use Rattle.std.proofs.Common.{None, sym, ◌∙◌}
use Rattle.eql_part.specs.KeyTables.{machine_of}
use Rattle.eql_part.specs.Rooms.{entries_of}
use Rattle.eql_part.proofs.Busy.{keeps_busy}
use Rattle.eql_part.proofs.Tables.{absent_at}
use Rattle.eql_part.proofs.rooms.drop_empty.Goals as goal

pub returns-in_default-clause-busy : goal.returns-in_default-clause-busy
returns-in_default-clause-busy g c =
    let t = c.args.machines.now in let key = c.args.key.now in
    keeps_busy None (machine_of (entries_of t) key) (absent_at c.args.shape.stages c.args.shape.span t key c.requires.table (sym c.find.ensures ∙ c.in_default.is)) tt
