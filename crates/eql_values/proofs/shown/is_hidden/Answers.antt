use Rattle.std.proofs.Common.{rules}
use Rattle.eql_values.proofs.shown.is_hidden.Goals as goal

pub returns-in_default-4 : goal.returns-in_default-4
returns-in_default-4 c = search rules
