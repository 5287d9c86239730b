use Rattle.std.proofs.lemmas.Grind.{common_steps}
use Rattle.std.proofs.Common.{arith}
use Rattle.eql_operators.proofs.arithmetic.rest.Goals as goal

pub returns-else-y-lt0 : goal.returns-else-y-lt0
returns-else-y-lt0 c = grind (arith, common_steps)
