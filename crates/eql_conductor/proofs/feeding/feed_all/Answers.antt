use Rattle.std.proofs.Common.{◌∷◌, [], arith}
use Rattle.std.proofs.lemmas.Result.{err_from_is_err_and}
use Rattle.eql_conductor.proofs.Resting.{rests_on}
use Rattle.eql_conductor.proofs.Onward.{rest_goes, stops_on, went_on}
use Rattle.eql_conductor.proofs.BoundsRounds.{fed_all, fed_more}
use Rattle.eql_conductor.specs.declared.note.Note.TheVariants.{Fed}
use Rattle.eql_conductor.proofs.Broken.{on_err}
use Rattle.eql_conductor.proofs.LaneNotes.{loop_broken, noted_all, noted_more}
use Rattle.eql_conductor.proofs.feeding.feed_all.Goals as goal

pub returns-in_err-feed_one-clause-rests : goal.returns-in_err-feed_one-clause-rests
returns-in_err-feed_one-clause-rests g c =
    rests_on (g.B.Bench.known c.args.bench.now) (g.B.Bench.known c.loop-s.bench) (g.B.Bench.known c.feed_one.new.bench) c.loop-s.invariant.rests c.feed_one.ensures.rests

pub returns-in_err-feed_one-clause-stops : goal.returns-in_err-feed_one-clause-stops
returns-in_err-feed_one-clause-stops g c =
    let p = err_from_is_err_and c.from_residual.result c.from_residual.ensures.1 in
    let rests = c.loop-s.invariant.rests in
    rw (p.1, p.2)
    (stops_on c.in_err-feed_one.field-0.0 (g.B.Bench.known c.args.bench.now) (g.B.Bench.known c.loop-s.bench) (g.B.Bench.known c.feed_one.new.bench)
    (rest_goes (g.B.Bench.known c.args.bench.now) (g.B.Bench.known c.loop-s.bench) rests.same rests.lanes) c.loop-s.invariant.went c.in_err-feed_one.ensures.stops)

pub loop-s-preserved : goal.loop-s-preserved
loop-s-preserved g c = record {
  rests = rests_on (g.B.Bench.known c.args.bench.now) (g.B.Bench.known c.loop-s.bench) (g.B.Bench.known c.feed_one.new.bench) c.loop-s.invariant.rests c.feed_one.ensures.rests;
  went = went_on (g.B.Bench.known c.args.bench.now) (g.B.Bench.known c.loop-s.bench) (g.B.Bench.known c.feed_one.new.bench) c.loop-s.invariant.went c.in_ok-feed_one.ensures.went;
  fed = fed_more c.loop-s.s (g.B.Bench.known c.args.bench.now) (g.B.Bench.known c.loop-s.bench) (g.B.Bench.known c.feed_one.new.bench) c.loop-s.invariant.rests c.feed_one.ensures.rests c.loop-s.invariant.fed c.in_ok-feed_one.ensures.fed;
  noted = noted_more c.loop-s.s (λ s. Fed c.args.batch ∷ []) (g.B.Bench.known c.args.bench.now) (g.B.Bench.known c.loop-s.bench) (g.B.Bench.known c.feed_one.new.bench) c.loop-s.invariant.rests.same c.loop-s.invariant.noted c.in_ok-feed_one.ensures.notes;
}

pub returns-clause-fed : goal.returns-clause-fed
returns-clause-fed g c =
    fed_all c.loop-s.s (g.B.Bench.known c.args.bench.now) (g.B.Bench.known c.loop-s.bench) (let e = c.lanes-count.ensures in omega (arith, e)) c.loop-s.invariant.fed

pub returns-in_err-feed_one-clause-broken_notes : goal.returns-in_err-feed_one-clause-broken_notes
returns-in_err-feed_one-clause-broken_notes g c =
    on_err c.from_residual.result (loop_broken c.loop-s.s (λ s. Fed c.args.batch ∷ []) (g.B.Bench.known c.args.bench.now) (g.B.Bench.known c.loop-s.bench) (g.B.Bench.known c.feed_one.new.bench) c.loop-s.invariant.rests.same c.loop-s.invariant.noted c.in_err-feed_one.ensures.broken_notes)

pub returns-clause-notes : goal.returns-clause-notes
returns-clause-notes g c =
    noted_all c.loop-s.s (λ s. Fed c.args.batch ∷ []) (g.B.Bench.known c.args.bench.now) (g.B.Bench.known c.loop-s.bench) (let e = c.lanes-count.ensures in omega (arith, e)) c.loop-s.invariant.noted
