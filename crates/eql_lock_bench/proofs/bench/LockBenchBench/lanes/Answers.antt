use Rattle.std.proofs.Common.{rules}
use Rattle.eql_lock_bench.proofs.bench.LockBenchBench.lanes.Goals as goal

pub returns : goal.returns
returns g c = search rules
