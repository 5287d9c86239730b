use Rattle.std.proofs.Common.{◌++◌, ◌∷◌, [], length, sym, ap, arith, subst}
use Rattle.eql_conductor.specs.declared.bench.NotPlayed.TheVariants.{Memory}
use Rattle.eql_conductor.specs.Benches.{WasNotPlayed}
use Rattle.eql_conductor.specs.Notes.{lane_note}
use Rattle.eql_replay.specs.declared.noted.Noted.TheVariants.{OfLane}
use Rattle.eql_replay.specs.Listed.{BenchView, bench_known, known_of}
use Rattle.eql_replay.specs.Noting.{did_fail}
use Rattle.eql_replay.proofs.Calls.{lane_plays}
use Rattle.eql_replay.proofs.Keeps.{lane_keeps}
use Rattle.eql_replay.proofs.Others.{then_lane}
use Rattle.eql_replay.proofs.list_bench.ListBenchBench.lane.Goals as goal

pub lane-reply-requires-clause-place : goal.lane-reply-requires-clause-place
lane-reply-requires-clause-place g c =
    let count = c.others_play.ensures.alone.rests.same.lanes in
    let same = ap (λ (b : BenchView _ _). length b.pool.lanes) c.self.view_is in
    let h = c.requires.place in omega (arith, count, same, h)

pub invariant_of-self : goal.invariant_of-self
invariant_of-self g c =
    let old = c.self.inside in
    let notes = c.push.ensures in
    let note = c.note_of_lane-note.ensures in let failed = c.has_failed-failed.ensures in (
      rw (notes, failed)
          (lane_keeps g.S.Source.left g.S.Source.lent_as g.S.Source.fault_plan g.L.LineReader.read_of g.T.Opening.lanes g.T.Opening.text g.T.Opening.plays
          old.pool c.lane-reply.new.self old.calls old.notes c.args.s c.args.op c.lane-reply.result c.note_of_lane-note.result c.self.invariant.0
          c.lane-reply.ensures.played c.lane-reply.ensures.parts),
      c.self.invariant.1,
    )

pub returns-clause-played : goal.returns-clause-played
returns-clause-played g c =
    let old = c.self.inside in
    let first : BenchView _ _ = c.args.self.now in
    let now : BenchView _ _ = record { pool = old.pool; calls = old.calls; notes = old.notes } in
    let alone : WasNotPlayed Memory (bench_known g.L.LineReader.read_of g.T.Opening.text first) (bench_known g.L.LineReader.read_of g.T.Opening.text now) =
    subst (λ (b : BenchView _ _). WasNotPlayed Memory (bench_known g.L.LineReader.read_of g.T.Opening.text first) (bench_known g.L.LineReader.read_of g.T.Opening.text b)) (sym c.self.view_is) c.others_play.ensures.alone in
    let plays = lane_plays g.S.Source.left g.S.Source.lent_as g.S.Source.fault_plan g.L.LineReader.read_of g.T.Opening.text old.pool c.lane-reply.new.self old.notes
    c.args.s c.args.op c.lane-reply.result c.self.invariant.0.texts c.lane-reply.ensures.played c.lane-reply.ensures.parts in
    let notes = c.push.ensures in
    let note = c.note_of_lane-note.ensures in let failed = c.has_failed-failed.ensures in
    rw (notes, note, failed)
    (then_lane c.args.s c.args.op c.lane-reply.result (bench_known g.L.LineReader.read_of g.T.Opening.text first) (bench_known g.L.LineReader.read_of g.T.Opening.text now)
    (known_of g.L.LineReader.read_of g.T.Opening.text c.lane-reply.new.self (old.notes ++ OfLane c.args.s (lane_note c.args.op c.lane-reply.result) (did_fail c.lane-reply.result) ∷ []))
    c.requires.place alone plays)
