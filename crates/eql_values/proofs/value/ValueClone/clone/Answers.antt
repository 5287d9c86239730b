use Rattle.std.proofs.Common.{rules}
use Rattle.eql_values.proofs.value.ValueClone.clone.Goals as goal

pub returns-in-Bool : goal.returns-in-Bool
returns-in-Bool c = search rules
