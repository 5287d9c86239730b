use Rattle.std.proofs.Common.{refl, sym, ◌∙◌, arith, ap}
use Rattle.std.specs.Prelude.{length}
use Rattle.eql_hub_run.specs.Conducted.{opened}
use Rattle.eql_hub_run.specs.Gathers.{IsUnplayedHand}
use Rattle.eql_hub_run.specs.Workers.{IsWhole}
use Rattle.eql_hub_run.proofs.Beginning.{unplayed_fresh}
use Rattle.eql_hub_run.proofs.Openings.{openings_fresh, openings_of}
use Rattle.eql_hub_run.proofs.Splits.{hand_unplayed}
use Rattle.eql_hub_run.proofs.run.run_hub.Goals as goal

-- what is required of the call stands behind one entry for each of its type parameters
pub split_off-workers-requires : goal.split_off-workers-requires
split_off-workers-requires g c κs within =
    let made = c.in-Ok.ensures in
    let lanes = openings_of _ _ _ c.args.lanes.items c.in-Ok.hand.lanes.views made.lanes in
    let parts = openings_of _ _ _ c.args.parts.items c.in-Ok.hand.parts.views made.parts in
    let unplayed : IsUnplayedHand 0 c.args.lanes.items c.args.parts.items c.in-Ok.hand = hand_unplayed c.args.lanes.items c.args.parts.items c.in-Ok.hand made.lanes made.parts in
    let own : IsWhole c.in-Ok.hub c.in-Ok.hand = record {
      own = made.own;
      lane_count = let a = c.lane_count.ensures in sym a.views ∙ a.locks ∙ ap length made.own.lanes;
      part_count = let a = c.part_count.ensures in sym a.views ∙ a.locks ∙ ap length made.own.parts;
    } in
    (within.0, (within.1.0, (within.1.1, (own, (made.knows, rw (lanes, parts) unplayed)))))

pub run_over-ended-requires-clause-opening : goal.run_over-ended-requires-clause-opening
run_over-ended-requires-clause-opening g c κs within = (refl, refl)

pub run_over-ended-requires-clause-may : goal.run_over-ended-requires-clause-may
run_over-ended-requires-clause-may g c κs within =
    let made = c.in-Ok.ensures in
    let split = c.split_off-workers.ensures in
    let hand = c.split_off-workers.new.hand in
    let n = length c.split_off-workers.result.items in
    let first_lanes = openings_of _ _ _ c.args.lanes.items c.in-Ok.hand.lanes.views made.lanes in
    let first_parts = openings_of _ _ _ c.args.parts.items c.in-Ok.hand.parts.views made.parts in
    let lanes = openings_fresh _ _ _ (opened c.in-Ok.hand).lanes hand.lanes.views (unplayed_fresh n (opened c.in-Ok.hand).lanes hand.lanes.views split.unplayed.lanes_are) ∙ first_lanes in
    let parts = openings_fresh _ _ _ (opened c.in-Ok.hand).parts hand.parts.views (unplayed_fresh n (opened c.in-Ok.hand).parts hand.parts.views split.unplayed.parts_are) ∙ first_parts in
    let unplayed : IsUnplayedHand n c.args.lanes.items c.args.parts.items hand = (rw first_parts at (rw first_lanes at split.unplayed)) in
    record {
      own = split.own.own;
      knows = split.knows;
      unplayed = rw (lanes, parts) unplayed;
      start = split.start;
      few = rw lanes c.requires.few;
      many = let a = split.count in let b = c.helping-hands.ensures in let d = c.requires.hands in omega (arith, a, b, d);
      texts = rw lanes c.requires.texts;
      may = rw (lanes, parts) c.requires.may;
      keeps = rw (lanes, parts) c.requires.keeps;
    }

pub returns-in-Ok-clause-ran : goal.returns-in-Ok-clause-ran
returns-in-Ok-clause-ran g c =
    let made = c.in-Ok.ensures in
    let split = c.split_off-workers.ensures in
    let hand = c.split_off-workers.new.hand in
    let n = length c.split_off-workers.result.items in
    let lanes = openings_fresh _ _ _ (opened c.in-Ok.hand).lanes hand.lanes.views (unplayed_fresh n (opened c.in-Ok.hand).lanes hand.lanes.views split.unplayed.lanes_are)
    ∙ openings_of _ _ _ c.args.lanes.items c.in-Ok.hand.lanes.views made.lanes in
    let parts = openings_fresh _ _ _ (opened c.in-Ok.hand).parts hand.parts.views (unplayed_fresh n (opened c.in-Ok.hand).parts hand.parts.views split.unplayed.parts_are)
    ∙ openings_of _ _ _ c.args.parts.items c.in-Ok.hand.parts.views made.parts in
    rw (sym lanes, sym parts) c.run_over-ended.ensures
