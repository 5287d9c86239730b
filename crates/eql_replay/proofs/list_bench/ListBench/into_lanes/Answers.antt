use Rattle.std.proofs.Common.{rules}
use Rattle.eql_replay.proofs.list_bench.ListBench.into_lanes.Goals as goal

pub returns-clause-lanes : goal.returns-clause-lanes
returns-clause-lanes g c = search rules
