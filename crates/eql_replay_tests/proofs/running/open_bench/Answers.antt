use Rattle.std.proofs.Common.{◌≤◌, length, ap, arith}
use Rattle.std.proofs.lemmas.Grind.{common_steps}
use Rattle.eql_replay.specs.Listed.{BenchView}
use Rattle.eql_replay_tests.proofs.Begun.{bench_may_run, may_hold, none_told}
use Rattle.eql_replay_tests.proofs.running.open_bench.Goals as goal

pub make_parts-requires-clause-may : goal.make_parts-requires-clause-may
make_parts-requires-clause-may g c =
    may_hold c.args.plan.now (record { stages = c.args.sought.stages; span = c.args.sought.span }) c.args.lanes.items c.args.holders.now c.args.book.now c.cuts_may_begin.ensures c.requires.starts

pub new-bench-requires-clause-texts : goal.new-bench-requires-clause-texts
new-bench-requires-clause-texts g c = none_told _ g.T.Opening.text c.args.lanes.items c.requires.untold

pub returns-clause-may : goal.returns-clause-may
returns-clause-may g c =
    let some : 1 ≤ length c.args.lanes.items = grind (arith, common_steps, c.in_ok-count.ensures, c.len.ensures, c.if-count-eq0.false) in
    bench_may_run g.L.LineReader.read_of g.T.Opening.text (λ reader shard line bytes item. g.met.L.LineReader.reads_at reader shard line bytes item)
    c.args.plan.now (record { stages = c.args.sought.stages; span = c.args.sought.span }) c.args.lanes.items c.in_ok-parts.parts.items c.args.holders.now c.args.book.now
    c.in_ok-parts.ensures.count (c.is_span.ensures c.if-not-is_span.false) c.in_ok-parts.ensures.begin c.new-bench.result c.new-bench.ensures c.fresh_runs_begin.ensures
    c.cut_runs_begin.ensures.fitting c.if-plan-lt1.false c.if-plan-gt4096.false some c.requires.whole c.requires.starts

pub returns-clause-lanes : goal.returns-clause-lanes
returns-clause-lanes g c = ap (λ (b : BenchView _ _). length b.pool.lanes) c.new-bench.ensures
