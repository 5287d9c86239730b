use Rattle.std.proofs.Common.{◌≤◌, ◌^◌, arith}
use Rattle.std.proofs.Math.Nat.{pow-le-pow_right}
use Rattle.eql_stages.proofs.masks.between.Goals as goal

pub overflow_sub-result : goal.overflow_sub-result
overflow_sub-result c = let grows : 2 ^ c.args.from ≤ 2 ^ c.args.to = pow-le-pow_right (omega arith) c.requires.ordered in omega arith
