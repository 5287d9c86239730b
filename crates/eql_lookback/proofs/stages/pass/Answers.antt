use Rattle.std.proofs.Common.{rules}
use Rattle.eql_lookback.proofs.stages.pass.Goals as goal

pub returns-else-one : goal.returns-else-one
returns-else-one c = search rules

pub returns-in_ok-insert-in-Some : goal.returns-in_ok-insert-in-Some
returns-in_ok-insert-in-Some c = search rules
