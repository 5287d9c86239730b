use Rattle.std.proofs.Common.{arith}
use Rattle.std.proofs.lemmas.Grind.{common_steps}
use Rattle.eql_values.proofs.item.Mask.has.Goals as goal

pub returns-then-stage-le128 : goal.returns-then-stage-le128
returns-then-stage-le128 c = grind (arith, common_steps)
