use Rattle.std.proofs.Common.{rules}
use Rattle.eql_turn_lock_tests.proofs.callers.take.Goals as goal

pub returns-clause-played : goal.returns-clause-played
returns-clause-played c = search rules
