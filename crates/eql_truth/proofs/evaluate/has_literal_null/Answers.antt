use Rattle.std.proofs.Common.{rules}
use Rattle.eql_truth.proofs.evaluate.has_literal_null.Goals as goal

pub returns-else-is_null : goal.returns-else-is_null
returns-else-is_null c = search rules
