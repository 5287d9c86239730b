use Rattle.std.proofs.Common.{rules}
use Rattle.eql_outside.proofs.faults.NameFaults.+add.Goals as goal

pub returns-then-eq : goal.returns-then-eq
returns-then-eq t c = search rules
