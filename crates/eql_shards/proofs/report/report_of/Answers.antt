use native.Mathlib.Omega.{arith}
use Rattle.std.proofs.Common.{string_bytes}
use Rattle.eql_shards.proofs.ReportLemmas.{line_more}
use Rattle.eql_shards.proofs.report.report_of.Goals as goal

pub loop-shard-preserved : goal.loop-shard-preserved
loop-shard-preserved g c =
    line_more c.args.lanes.now.items c.loop-shard.shard c.index.result.now c.counts.result (string_bytes c.loop-shard.report) (string_bytes c.add_line.new.report)
    (omega (arith, c.loop-shard-test.true, c.len-shard-end.ensures)) c.index.ensures c.counts.ensures c.loop-shard.invariant c.in_ok-add_line.ensures
