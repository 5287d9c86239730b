use Rattle.std.proofs.Common.{arith}
use Rattle.eql_stages.proofs.compile.sequence.Goals as goal

pub with_depth-requires-clause-few : goal.with_depth-requires-clause-few
with_depth-requires-clause-few c = let count = c.in_ok-items.ensures.matcher.count in let few = c.requires.few in omega arith
