use Rattle.std.proofs.Common.{rules}
use Rattle.eql_operators.proofs.three_valued.conjunction.Goals as goal

pub returns-in_default : goal.returns-in_default
returns-in_default c = search rules
