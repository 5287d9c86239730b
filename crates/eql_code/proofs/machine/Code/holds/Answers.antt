use Rattle.std.proofs.Common.{rules}
use Rattle.eql_code.proofs.machine.Code.holds.Goals as goal

pub returns-clause-room : goal.returns-clause-room
returns-clause-room c = search rules
