use Rattle.std.proofs.Common.{◌≡◌, take, string_bytes}
use Rattle.eql_runs.specs.Searches.{report_lines}
use Rattle.eql_shards.specs.Reports.{counts_in}
use Rattle.eql_shards.proofs.report.report_of.Given as goal

abbrev pub invariant-loop-shard : goal.invariant-loop-shard
invariant-loop-shard g l = string_bytes l.report ≡ report_lines 0 (counts_in (take l.shard l.lanes.items))
