use Rattle.std.proofs.Common.{rules}
use Rattle.eql_values.proofs.span.is_in_time.Goals as goal

pub returns-in-Some : goal.returns-in-Some
returns-in-Some c = search rules
