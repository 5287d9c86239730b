use Rattle.std.proofs.Common.{◌≡◌, ◌++◌, ◌∷◌, [], length, sym, ap, ◌∙◌, refl, arith, subst}
use Rattle.eql_conductor.specs.declared.bench.NotPlayed.TheVariants.{Memory}
use Rattle.eql_conductor.specs.declared.note.Note.{Note}
use Rattle.eql_conductor.specs.Benches.{WasNotPlayed}
use Rattle.eql_conductor.specs.Notes.{part_note}
use Rattle.eql_replay.specs.declared.noted.Noted.TheVariants.{OfPart}
use Rattle.eql_replay.specs.Listed.{BenchView, bench_known, known_of}
use Rattle.eql_replay.specs.Noting.{told_note}
use Rattle.eql_replay.proofs.Calls.{part_plays}
use Rattle.eql_replay.proofs.Keeps.{asked_told, part_keeps}
use Rattle.eql_replay.proofs.Others.{may_still, then_part}
use Rattle.eql_replay.proofs.list_bench.ListBenchBench.part.Goals as goal

pub part-reply-requires-clause-place : goal.part-reply-requires-clause-place
part-reply-requires-clause-place g c =
    let count = c.others_play.ensures.alone.rests.same.parts in
    let same = ap (λ (b : BenchView _ _). length b.pool.parts) c.self.view_is in
    let h = c.requires.place in omega (arith, count, same, h)

pub part-reply-requires-clause-allowed : goal.part-reply-requires-clause-allowed
part-reply-requires-clause-allowed g c part there =
    let old = c.self.inside in
    let first : BenchView _ _ = c.args.self.now in
    let now : BenchView _ _ = record { pool = old.pool; calls = old.calls; notes = old.notes } in
    let alone : WasNotPlayed Memory (bench_known g.L.LineReader.read_of g.T.Opening.text first) (bench_known g.L.LineReader.read_of g.T.Opening.text now) =
    subst (λ (b : BenchView _ _). WasNotPlayed Memory (bench_known g.L.LineReader.read_of g.T.Opening.text first) (bench_known g.L.LineReader.read_of g.T.Opening.text b)) (sym c.self.view_is) c.others_play.ensures.alone in
    may_still c.args.p c.args.op (bench_known g.L.LineReader.read_of g.T.Opening.text first) (bench_known g.L.LineReader.read_of g.T.Opening.text now)
    c.requires.place alone.rests c.requires.allowed part.state (record { part = part; there = there; state_is = refl })

pub invariant_of-self : goal.invariant_of-self
invariant_of-self g c =
    let old = c.self.inside in
    let notes = c.push.ensures in (
      rw notes
          (part_keeps g.S.Source.left g.S.Source.lent_as g.S.Source.fault_plan g.L.LineReader.read_of g.T.Opening.lanes g.T.Opening.text g.T.Opening.plays
          old.pool c.part-reply.new.self old.calls old.notes c.args.p c.args.op c.part-reply.result c.with_reply-note.result c.self.invariant.0
          c.part-reply.ensures.played c.part-reply.ensures.lanes),
      c.self.invariant.1,
    )

pub returns-clause-played : goal.returns-clause-played
returns-clause-played g c =
    let old = c.self.inside in
    let first : BenchView _ _ = c.args.self.now in
    let now : BenchView _ _ = record { pool = old.pool; calls = old.calls; notes = old.notes } in
    let alone : WasNotPlayed Memory (bench_known g.L.LineReader.read_of g.T.Opening.text first) (bench_known g.L.LineReader.read_of g.T.Opening.text now) =
    subst (λ (b : BenchView _ _). WasNotPlayed Memory (bench_known g.L.LineReader.read_of g.T.Opening.text first) (bench_known g.L.LineReader.read_of g.T.Opening.text b)) (sym c.self.view_is) c.others_play.ensures.alone in
    let plays = part_plays g.S.Source.left g.S.Source.lent_as g.S.Source.fault_plan g.L.LineReader.read_of g.T.Opening.text old.pool c.part-reply.new.self old.notes
    c.args.p c.args.op c.part-reply.result c.part-reply.ensures.played c.part-reply.ensures.lanes in
    let notes = c.push.ensures in
    let note : c.with_reply-note.result ≡ part_note c.args.op c.part-reply.result =
    c.with_reply-note.ensures ∙ ap (λ (n : Note). told_note n c.part-reply.result) c.note_of_part-asked.ensures ∙ asked_told c.args.op c.part-reply.result in
    rw (notes, note)
    (then_part c.args.p c.args.op c.part-reply.result (bench_known g.L.LineReader.read_of g.T.Opening.text first) (bench_known g.L.LineReader.read_of g.T.Opening.text now)
    (known_of g.L.LineReader.read_of g.T.Opening.text c.part-reply.new.self (old.notes ++ OfPart c.args.p (part_note c.args.op c.part-reply.result) ∷ []))
    c.requires.place alone plays)
