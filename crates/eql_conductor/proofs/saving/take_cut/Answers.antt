use Rattle.std.proofs.Common.{[], ℤ, subst, sym, ◌≡◌}
use Rattle.std.specs.Int.{w128}
use Rattle.std.proofs.lemmas.Int.{to_z-of_z}
use Rattle.std.proofs.lemmas.Result.{err_from_is_err_and}
use Rattle.eql_values.specs.declared.order.Mark.TheVariants.{At}
use Rattle.eql_laws.specs.Alive.{alive_holders}
use Rattle.eql_conductor.specs.PartRounds.{AreAtRest, AreSomehowFull, pending_after}
use Rattle.eql_conductor.proofs.Resting.{rests_on}
use Rattle.eql_conductor.proofs.Onward.{rest_goes, stops_on}
use Rattle.eql_conductor.proofs.Broken.{on_err}
use Rattle.eql_conductor.proofs.NotedCuts.{save_broken, save_noted, snapping_broken}
use Rattle.eql_conductor.proofs.Saved.{full_stays, is_saved}
use Rattle.eql_conductor.proofs.Stays.{parts_stay}
use Rattle.eql_conductor.proofs.saving.take_cut.Goals as goal

pub snap_parts-requires : goal.snap_parts-requires
snap_parts-requires g c =
    let rests = c.snap_lanes.ensures.rests in
    record {
      some = subst (λ (t : ℤ). AreSomehowFull (At t) (g.B.Bench.known c.snap_lanes.new.bench)) (sym (to_z-of_z w128 c.args.time c.ranges.time))
          (full_stays (At c.args.time) (g.B.Bench.known c.args.bench.now) (g.B.Bench.known c.snap_lanes.new.bench) rests.same rests.parts c.requires.some);
    }

pub returns-in_err-holders-clause-rests : goal.returns-in_err-holders-clause-rests
returns-in_err-holders-clause-rests g c =
    rests_on (g.B.Bench.known c.args.bench.now) (g.B.Bench.known c.snap_lanes.new.bench) (g.B.Bench.known c.snap_parts.new.bench) c.snap_lanes.ensures.rests c.snap_parts.ensures.rests

pub returns-in_err-holders-clause-stops : goal.returns-in_err-holders-clause-stops
returns-in_err-holders-clause-stops g c =
    let p = err_from_is_err_and c.from_residual-in_err-holders.result c.from_residual-in_err-holders.ensures.1 in
    let rests = c.snap_lanes.ensures.rests in
    rw (p.1, p.2)
    (stops_on c.in_err-holders.field-0.0 (g.B.Bench.known c.args.bench.now) (g.B.Bench.known c.snap_lanes.new.bench) (g.B.Bench.known c.snap_parts.new.bench)
    (rest_goes (g.B.Bench.known c.args.bench.now) (g.B.Bench.known c.snap_lanes.new.bench) rests.same rests.lanes) c.in_ok-lanes.ensures.went c.in_err-holders.ensures.stops)

pub returns-in-Ok-clause-saved : goal.returns-in-Ok-clause-saved
returns-in-Ok-clause-saved g c =
    let rests = c.snap_lanes.ensures.rests in
    let a = g.B.Bench.known c.args.bench.now in
    let b = g.B.Bench.known c.snap_lanes.new.bench in
    let time = to_z-of_z w128 c.args.time c.ranges.time in
    is_saved c.args.head.now c.args.time a c.args.book.now c.in_ok-lanes.lanes c.in_ok-holders.holders c.in-Ok.cut
    (subst (λ (t : ℤ). c.in-Ok.cut ≡ record { head = c.args.head.now; mark = t; lanes = c.in_ok-lanes.lanes; holders = c.in_ok-holders.holders; book = c.args.book.now.kept }) time c.in-Ok.ensures)
    c.requires.lanes c.requires.numbers c.requires.head c.in_ok-lanes.ensures.snaps
    (λ rules all rest.
    subst (λ (t : ℤ). AreAtRest rules all (At t) b → c.in_ok-holders.holders ≡ alive_holders rules.span t (pending_after rules all [])) time
    (c.in_ok-holders.ensures.held rules all) (parts_stay rules all (At c.args.time) a b rests.same rests.parts rest))
    c.in_ok-holders.ensures.in_order c.in_ok-holders.ensures.full c.types_say.ensures

pub returns-in-Ok-clause-rests : goal.returns-in-Ok-clause-rests
returns-in-Ok-clause-rests g c =
    rests_on (g.B.Bench.known c.args.bench.now) (g.B.Bench.known c.snap_lanes.new.bench) (g.B.Bench.known c.snap_parts.new.bench) c.snap_lanes.ensures.rests c.snap_parts.ensures.rests

pub returns-in-Err-clause-rests : goal.returns-in-Err-clause-rests
returns-in-Err-clause-rests g c =
    rests_on (g.B.Bench.known c.args.bench.now) (g.B.Bench.known c.snap_lanes.new.bench) (g.B.Bench.known c.snap_parts.new.bench) c.snap_lanes.ensures.rests c.snap_parts.ensures.rests

pub returns-in_err-lanes-clause-broken_notes : goal.returns-in_err-lanes-clause-broken_notes
returns-in_err-lanes-clause-broken_notes g c =
    on_err c.from_residual.result (snapping_broken (g.B.Bench.known c.args.bench.now) (g.B.Bench.known c.snap_lanes.new.bench) c.snap_lanes.ensures.rests c.in_err-lanes.ensures.broken_notes)

pub returns-in_err-holders-clause-broken_notes : goal.returns-in_err-holders-clause-broken_notes
returns-in_err-holders-clause-broken_notes g c =
    on_err c.from_residual-in_err-holders.result (save_broken (g.B.Bench.known c.args.bench.now) (g.B.Bench.known c.snap_lanes.new.bench) (g.B.Bench.known c.snap_parts.new.bench) c.snap_lanes.ensures.rests c.snap_parts.ensures.rests c.in_ok-lanes.ensures.notes c.snap_parts.ensures.notes)

pub returns-in-Ok-clause-notes : goal.returns-in-Ok-clause-notes
returns-in-Ok-clause-notes g c = save_noted (g.B.Bench.known c.args.bench.now) (g.B.Bench.known c.snap_lanes.new.bench) (g.B.Bench.known c.snap_parts.new.bench) c.snap_lanes.ensures.rests c.snap_parts.ensures.rests c.in_ok-lanes.ensures.notes c.snap_parts.ensures.notes

pub returns-in-Err-clause-broken_notes : goal.returns-in-Err-clause-broken_notes
returns-in-Err-clause-broken_notes g c = save_broken (g.B.Bench.known c.args.bench.now) (g.B.Bench.known c.snap_lanes.new.bench) (g.B.Bench.known c.snap_parts.new.bench) c.snap_lanes.ensures.rests c.snap_parts.ensures.rests c.in_ok-lanes.ensures.notes c.snap_parts.ensures.notes
