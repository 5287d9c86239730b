use Rattle.std.proofs.Common.{rules}
use Rattle.eql_values.proofs.value.Key.of.Goals as goal

pub returns-in-Some : goal.returns-in-Some
returns-in-Some c = search rules
