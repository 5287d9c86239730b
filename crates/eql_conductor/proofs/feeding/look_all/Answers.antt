use Rattle.std.proofs.Common.{arith}
use Rattle.std.proofs.lemmas.Result.{err_from_is_err_and}
use Rattle.eql_conductor.proofs.Resting.{rests_on}
use Rattle.eql_conductor.proofs.Onward.{rest_goes, stops_on, went_on}
use Rattle.eql_conductor.proofs.Looks.{look_more}
use Rattle.eql_conductor.proofs.BoundsRounds.{low_more}
use Rattle.eql_conductor.proofs.Broken.{on_err}
use Rattle.eql_conductor.proofs.LaneNotes.{looked_all, looked_broken, looked_more}
use Rattle.eql_conductor.proofs.feeding.look_all.Goals as goal

pub returns-in_err-low-clause-rests : goal.returns-in_err-low-clause-rests
returns-in_err-low-clause-rests g c =
    rests_on (g.B.Bench.known c.args.bench.now) (g.B.Bench.known c.loop-s.bench) (g.B.Bench.known c.look_one.new.bench) c.loop-s.invariant.rests c.look_one.ensures.rests

pub returns-in_err-low-clause-stops : goal.returns-in_err-low-clause-stops
returns-in_err-low-clause-stops g c =
    let p = err_from_is_err_and c.from_residual.result c.from_residual.ensures.1 in
    let rests = c.loop-s.invariant.rests in
    rw (p.1, p.2)
    (stops_on c.in_err-low.field-0.0 (g.B.Bench.known c.args.bench.now) (g.B.Bench.known c.loop-s.bench) (g.B.Bench.known c.look_one.new.bench)
    (rest_goes (g.B.Bench.known c.args.bench.now) (g.B.Bench.known c.loop-s.bench) rests.same rests.lanes) c.loop-s.invariant.went c.in_err-low.ensures.stops)

pub loop-s-preserved : goal.loop-s-preserved
loop-s-preserved g c = record {
  rests = rests_on (g.B.Bench.known c.args.bench.now) (g.B.Bench.known c.loop-s.bench) (g.B.Bench.known c.look_one.new.bench) c.loop-s.invariant.rests c.look_one.ensures.rests;
  safe = rw c.least-mark.ensures
      (look_more c.loop-s.s c.loop-s.mark c.in_ok-low.low (g.B.Bench.known c.loop-s.bench) (g.B.Bench.known c.look_one.new.bench) c.look_one.ensures.rests c.loop-s.invariant.safe c.in_ok-low.ensures.safe);
  went = went_on (g.B.Bench.known c.args.bench.now) (g.B.Bench.known c.loop-s.bench) (g.B.Bench.known c.look_one.new.bench) c.loop-s.invariant.went c.in_ok-low.ensures.went;
  low = rw c.least-mark.ensures
      (low_more c.loop-s.s c.loop-s.mark c.in_ok-low.low (g.B.Bench.known c.args.bench.now) (g.B.Bench.known c.loop-s.bench) (g.B.Bench.known c.look_one.new.bench) c.loop-s.invariant.rests c.look_one.ensures.rests c.loop-s.invariant.low c.in_ok-low.ensures.low);
  looked = rw c.least-mark.ensures
      (looked_more c.loop-s.s c.loop-s.mark (g.B.Bench.known c.args.bench.now) (g.B.Bench.known c.loop-s.bench) (g.B.Bench.known c.look_one.new.bench) c.loop-s.invariant.rests.same c.loop-s.invariant.looked c.in_ok-low.low c.in_ok-low.ensures.notes);
}

pub returns-in_err-low-clause-broken_notes : goal.returns-in_err-low-clause-broken_notes
returns-in_err-low-clause-broken_notes g c =
    on_err c.from_residual.result (looked_broken c.loop-s.s c.loop-s.mark (g.B.Bench.known c.args.bench.now) (g.B.Bench.known c.loop-s.bench) (g.B.Bench.known c.look_one.new.bench) c.loop-s.invariant.rests.same c.loop-s.invariant.looked
    (let e = c.lanes-count.ensures in omega (arith, e)) c.in_err-low.ensures.broken_notes)

pub returns-clause-notes : goal.returns-clause-notes
returns-clause-notes g c =
    looked_all c.loop-s.s c.loop-s.mark (g.B.Bench.known c.args.bench.now) (g.B.Bench.known c.loop-s.bench) (let e = c.lanes-count.ensures in omega (arith, e)) c.loop-s.invariant.looked
