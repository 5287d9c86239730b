use Rattle.std.proofs.Common.{rules}
use Rattle.eql_outside.proofs.holding.locked.Goals as goal

pub returns-in-Err-WouldBlock-clause-refused : goal.returns-in-Err-WouldBlock-clause-refused
returns-in-Err-WouldBlock-clause-refused c = search rules
