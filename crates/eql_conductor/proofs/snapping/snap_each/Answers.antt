use Rattle.std.proofs.Common.{arith}
use Rattle.std.proofs.lemmas.Result.{err_from_is_err_and}
use Rattle.eql_values.specs.declared.order.Mark.TheVariants.{At}
use Rattle.eql_conductor.specs.Snaps.{held_of}
use Rattle.eql_conductor.proofs.Resting.{rests_on}
use Rattle.eql_conductor.proofs.Onward.{rest_goes, stops_on, went_on}
use Rattle.eql_conductor.proofs.Stays.{parts_stay}
use Rattle.eql_conductor.proofs.PartNotes.{parts_any, parts_end, parts_more}
use Rattle.eql_conductor.proofs.Snapped.{held_more, sixteen_held}
use Rattle.eql_conductor.proofs.snapping.snap_each.Goals as goal

pub returns-in_err-held-clause-rests : goal.returns-in_err-held-clause-rests
returns-in_err-held-clause-rests g c =
    rests_on (g.B.Bench.known c.args.bench.now) (g.B.Bench.known c.loop-p.bench) (g.B.Bench.known c.snap_part.new.bench) c.loop-p.invariant.rests c.snap_part.ensures.rests

pub returns-in_err-held-clause-stops : goal.returns-in_err-held-clause-stops
returns-in_err-held-clause-stops g c =
    let p = err_from_is_err_and c.from_residual.result c.from_residual.ensures.1 in
    let rests = c.loop-p.invariant.rests in
    rw (p.1, p.2)
    (stops_on c.in_err-held.field-0.0 (g.B.Bench.known c.args.bench.now) (g.B.Bench.known c.loop-p.bench) (g.B.Bench.known c.snap_part.new.bench)
    (rest_goes (g.B.Bench.known c.args.bench.now) (g.B.Bench.known c.loop-p.bench) rests.same rests.lanes) c.loop-p.invariant.went c.in_err-held.ensures.stops)

pub returns-in_err-add_held-clause-rests : goal.returns-in_err-add_held-clause-rests
returns-in_err-add_held-clause-rests g c =
    rests_on (g.B.Bench.known c.args.bench.now) (g.B.Bench.known c.loop-p.bench) (g.B.Bench.known c.snap_part.new.bench) c.loop-p.invariant.rests c.snap_part.ensures.rests

pub loop-p-preserved : goal.loop-p-preserved
loop-p-preserved g c =
    let rests = c.loop-p.invariant.rests in
    record {
      rests = rests_on (g.B.Bench.known c.args.bench.now) (g.B.Bench.known c.loop-p.bench) (g.B.Bench.known c.snap_part.new.bench) rests c.snap_part.ensures.rests;
      held = λ rules all time rest. held_more (held_of rules all time) c.loop-p.p c.loop-p.lists.items c.add_held.new.lists.items c.in_ok-held.held
          (c.loop-p.invariant.held rules all time rest) c.in_ok-add_held.ensures.ok
          (c.in_ok-held.ensures.held rules all time (parts_stay rules all (At time) (g.B.Bench.known c.args.bench.now) (g.B.Bench.known c.loop-p.bench) rests.same rests.parts rest));
      went = went_on (g.B.Bench.known c.args.bench.now) (g.B.Bench.known c.loop-p.bench) (g.B.Bench.known c.snap_part.new.bench) c.loop-p.invariant.went c.in_ok-held.ensures.went;
      noted = parts_more c.loop-p.p (λ p. 0) 1 (g.B.Bench.known c.args.bench.now) (g.B.Bench.known c.loop-p.bench) (g.B.Bench.known c.snap_part.new.bench) c.loop-p.invariant.rests.same c.loop-p.invariant.noted c.snap_part.ensures.notes;
    }

pub returns-clause-held : goal.returns-clause-held
returns-clause-held g c =
    λ rules all time rest.
    let sixteen = rest.are.count in
    sixteen_held (held_of rules all time) c.loop-p.p c.loop-p.lists.items
    (let e = c.parts-count.ensures in omega (arith, e, sixteen)) (c.loop-p.invariant.held rules all time rest)

pub returns-in_err-held-clause-notes : goal.returns-in_err-held-clause-notes
returns-in_err-held-clause-notes g c = parts_end c.loop-p.p (λ p. 0) 1 (g.B.Bench.known c.args.bench.now) (g.B.Bench.known c.loop-p.bench) (g.B.Bench.known c.snap_part.new.bench) c.loop-p.invariant.rests.same c.loop-p.invariant.noted c.snap_part.ensures.notes

pub returns-in_err-add_held-clause-notes : goal.returns-in_err-add_held-clause-notes
returns-in_err-add_held-clause-notes g c = parts_end c.loop-p.p (λ p. 0) 1 (g.B.Bench.known c.args.bench.now) (g.B.Bench.known c.loop-p.bench) (g.B.Bench.known c.snap_part.new.bench) c.loop-p.invariant.rests.same c.loop-p.invariant.noted c.snap_part.ensures.notes

pub returns-clause-notes : goal.returns-clause-notes
returns-clause-notes g c = parts_any c.loop-p.p (λ p. 0) 1 (g.B.Bench.known c.args.bench.now) (g.B.Bench.known c.loop-p.bench) c.loop-p.invariant.noted
