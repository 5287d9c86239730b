use Rattle.std.proofs.Common.{◌∷◌, [], arith}
use Rattle.std.proofs.lemmas.Result.{err_from_is_err_and}
use Rattle.eql_conductor.proofs.Resting.{rests_on}
use Rattle.eql_conductor.proofs.Onward.{rest_goes, stops_on, went_on}
use Rattle.eql_conductor.proofs.Takes.{pushed_count}
use Rattle.eql_conductor.proofs.Stays.{lanes_stay}
use Rattle.eql_conductor.specs.declared.note.Note.TheVariants.{Snapped}
use Rattle.eql_conductor.proofs.Broken.{on_err}
use Rattle.eql_conductor.proofs.LaneNotes.{loop_broken, noted_all, noted_broken, noted_more}
use Rattle.eql_conductor.proofs.Snapped.{snapped_more}
use Rattle.eql_conductor.proofs.snapping.snap_lanes.Goals as goal

pub returns-in_err-cut-clause-rests : goal.returns-in_err-cut-clause-rests
returns-in_err-cut-clause-rests g c =
    rests_on (g.B.Bench.known c.args.bench.now) (g.B.Bench.known c.loop-s.bench) (g.B.Bench.known c.snap_lane.new.bench) c.loop-s.invariant.rests c.snap_lane.ensures.rests

pub returns-in_err-cut-clause-stops : goal.returns-in_err-cut-clause-stops
returns-in_err-cut-clause-stops g c =
    let p = err_from_is_err_and c.from_residual.result c.from_residual.ensures.1 in
    let rests = c.loop-s.invariant.rests in
    rw (p.1, p.2)
    (stops_on c.in_err-cut.field-0.0 (g.B.Bench.known c.args.bench.now) (g.B.Bench.known c.loop-s.bench) (g.B.Bench.known c.snap_lane.new.bench)
    (rest_goes (g.B.Bench.known c.args.bench.now) (g.B.Bench.known c.loop-s.bench) rests.same rests.lanes) c.loop-s.invariant.went c.in_err-cut.ensures.stops)

pub returns-in_err-add_cut-clause-rests : goal.returns-in_err-add_cut-clause-rests
returns-in_err-add_cut-clause-rests g c =
    rests_on (g.B.Bench.known c.args.bench.now) (g.B.Bench.known c.loop-s.bench) (g.B.Bench.known c.snap_lane.new.bench) c.loop-s.invariant.rests c.snap_lane.ensures.rests

pub loop-s-preserved : goal.loop-s-preserved
loop-s-preserved g c =
    let rests = c.loop-s.invariant.rests in
    record {
      rests = rests_on (g.B.Bench.known c.args.bench.now) (g.B.Bench.known c.loop-s.bench) (g.B.Bench.known c.snap_lane.new.bench) rests c.snap_lane.ensures.rests;
      snaps = λ texts mark at.
          snapped_more texts c.loop-s.s mark (g.B.Bench.known c.args.bench.now) (g.B.Bench.known c.loop-s.bench)
          c.loop-s.cuts.items c.add_cut.new.cuts.items c.in_ok-cut.cut c.loop-s.invariant.count (omega (arith, c.lanes-count.ensures)) rests.same c.in_ok-add_cut.ensures.ok
          (c.loop-s.invariant.snaps texts mark at)
          (c.in_ok-cut.ensures.snap texts mark (lanes_stay texts mark (g.B.Bench.known c.args.bench.now) (g.B.Bench.known c.loop-s.bench) rests.same rests.lanes at));
      count = pushed_count c.loop-s.cuts.items c.in_ok-cut.cut c.add_cut.new.cuts.items c.loop-s.s c.in_ok-add_cut.ensures.ok c.loop-s.invariant.count;
      went = went_on (g.B.Bench.known c.args.bench.now) (g.B.Bench.known c.loop-s.bench) (g.B.Bench.known c.snap_lane.new.bench) c.loop-s.invariant.went c.in_ok-cut.ensures.went;
      noted = noted_more c.loop-s.s (λ s. Snapped ∷ []) (g.B.Bench.known c.args.bench.now) (g.B.Bench.known c.loop-s.bench) (g.B.Bench.known c.snap_lane.new.bench) c.loop-s.invariant.rests.same c.loop-s.invariant.noted c.in_ok-cut.ensures.notes;
    }

pub returns-in_err-cut-clause-broken_notes : goal.returns-in_err-cut-clause-broken_notes
returns-in_err-cut-clause-broken_notes g c =
    on_err c.from_residual.result (loop_broken c.loop-s.s (λ s. Snapped ∷ []) (g.B.Bench.known c.args.bench.now) (g.B.Bench.known c.loop-s.bench) (g.B.Bench.known c.snap_lane.new.bench) c.loop-s.invariant.rests.same c.loop-s.invariant.noted c.in_err-cut.ensures.broken_notes)

pub returns-in_err-add_cut-clause-broken_notes : goal.returns-in_err-add_cut-clause-broken_notes
returns-in_err-add_cut-clause-broken_notes g c =
    on_err c.from_residual-in_err-add_cut.result (loop_broken c.loop-s.s (λ s. Snapped ∷ []) (g.B.Bench.known c.args.bench.now) (g.B.Bench.known c.loop-s.bench) (g.B.Bench.known c.snap_lane.new.bench) c.loop-s.invariant.rests.same c.loop-s.invariant.noted
    (noted_broken c.loop-s.s (Snapped ∷ []) (g.B.Bench.known c.loop-s.bench) (g.B.Bench.known c.snap_lane.new.bench) c.in_ok-cut.ensures.notes))

pub returns-clause-notes : goal.returns-clause-notes
returns-clause-notes g c =
    noted_all c.loop-s.s (λ s. Snapped ∷ []) (g.B.Bench.known c.args.bench.now) (g.B.Bench.known c.loop-s.bench) (let e = c.lanes-count.ensures in omega (arith, e)) c.loop-s.invariant.noted
