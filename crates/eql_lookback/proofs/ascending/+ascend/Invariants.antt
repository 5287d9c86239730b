use Rattle.std.proofs.Common.{length}
use Rattle.eql_lookback.proofs.ascending.+ascend.Given as goal

abbrev pub decreases-ascend : goal.decreases-ascend
decreases-ascend l = length l.items.now
