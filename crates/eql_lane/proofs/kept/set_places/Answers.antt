use Rattle.std.proofs.Common.{ℕ, length, slice_index_or, ap, arith}
use Rattle.eql_values.specs.Accepted.{placed_at}
use Rattle.eql_lane.specs.Noting.{item_noted}
use Rattle.eql_lane.proofs.LiftLemmas.{set_next, set_all}
use Rattle.eql_lane.proofs.kept.set_places.Goals as goal

pub loop-item-init : goal.loop-item-init
loop-item-init c = record { within = omega arith; items = c.deref_mut-item-items.ensures.value }

pub loop-item-preserved : goal.loop-item-preserved
loop-item-preserved c =
    let inv = c.loop-item.invariant in
    let many = ap length c.deref_mut-item-items.ensures.value in
    let lt = c.loop-item-test.true in
    record {
      within = omega (arith, lt, many);
      items = set_next (item_noted c.args.places.now) c.args.items.now.items c.loop-item.item-items c.loop-item.item-index c.item-item.result _ (omega (arith, lt, many)) inv.items
          (ap (λ (at : ℕ). placed_at at (slice_index_or c.loop-item.item-items c.loop-item.item-index c.item-item.result)) c.place_in-item.ensures);
    }

pub returns : goal.returns
returns c =
    let past = c.loop-item-test.false in
    let many = ap length c.deref_mut-item-items.ensures.value in
    set_all (item_noted c.args.places.now) c.args.items.now.items c.loop-item.item-items c.loop-item.item-index c.args.items.now.len (omega (arith, past, many)) c.loop-item.invariant.items (let a = c.args.items.now.ok in omega (arith, a))
