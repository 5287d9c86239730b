use Rattle.std.proofs.Common.{length}
use Rattle.eql_replay_tests.proofs.Begun.{bench_keeps}
use Rattle.eql_replay_tests.proofs.running.replay_over.Goals as goal

pub replay-requires-clause-keeps : goal.replay-requires-clause-keeps
replay-requires-clause-keeps g c =
    bench_keeps _ (λ d. 0) g.L.LineReader.read_of g.T.Opening.text c.args.plan.now c.in_ok-bench.bench c.args.keep.now (length c.args.lanes.items) c.in_ok-bench.ensures.lanes c.requires.keeps
