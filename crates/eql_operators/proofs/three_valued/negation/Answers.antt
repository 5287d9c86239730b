use Rattle.std.proofs.Common.{rules}
use Rattle.eql_operators.proofs.three_valued.negation.Goals as goal

pub returns-in-None : goal.returns-in-None
returns-in-None c = search rules
