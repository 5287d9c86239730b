use Rattle.std.proofs.Common.{rules}
use Rattle.eql_turn_lock_tests.proofs.callers.deliver_waiting.Goals as goal

pub returns-clause-played : goal.returns-clause-played
returns-clause-played g c = search rules
