use Rattle.std.proofs.Common.{rules}
use Rattle.eql_values.proofs.text.Text.copy_of.Goals as goal

pub returns-in-Ok : goal.returns-in-Ok
returns-in-Ok c = search rules
