use Rattle.std.proofs.lemmas.Grind.{common_steps}
use Rattle.std.proofs.Common.{arith}
use Rattle.eql_truth.proofs.evaluate.+evaluate.Goals as goal

pub evaluate_and-loop-item-preserved : goal.evaluate_and-loop-item-preserved
evaluate_and-loop-item-preserved t c = grind (arith, common_steps)
