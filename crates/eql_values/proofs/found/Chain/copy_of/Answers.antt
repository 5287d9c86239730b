use Rattle.std.proofs.Common.{rules}
use Rattle.eql_values.proofs.found.Chain.copy_of.Goals as goal

pub returns : goal.returns
returns c = search rules
