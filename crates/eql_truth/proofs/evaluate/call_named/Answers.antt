use Rattle.std.proofs.Common.{rules}
use Rattle.eql_truth.proofs.evaluate.call_named.Goals as goal

pub returns-in-Some : goal.returns-in-Some
returns-in-Some c = search rules
