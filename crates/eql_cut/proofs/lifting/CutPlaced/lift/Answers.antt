use Rattle.std.proofs.Common.{◌++◌, sym, ap, subst}
use Rattle.std.specs.List.{flat_map}
use Rattle.eql_values.specs.declared.found.Holder.{Holder}
use Rattle.eql_cut.specs.Placing.{IsUnplaced, lane_orders, state_orders}
use Rattle.eql_cut.proofs.PlaceLaws.{unplaced_both}
use Rattle.eql_cut.proofs.lifting.CutPlaced.lift.Goals as goal

pub lift_each-requires-clause-unplaced : goal.lift_each-requires-clause-unplaced
lift_each-requires-clause-unplaced c =
    let cut = c.args.self in
    let chains = flat_map (λ (h : Holder). h.chain) cut.holders in
    let states = flat_map state_orders cut.book.pipes in
    subst IsUnplaced (sym (ap (flat_map lane_orders) c.into_items.ensures)) (unplaced_both (flat_map lane_orders cut.lanes) (chains ++ states) c.requires.unplaced).left

pub lift_each-requires-2-clause-unplaced : goal.lift_each-requires-2-clause-unplaced
lift_each-requires-2-clause-unplaced c =
    let cut = c.args.self in
    let chains = flat_map (λ (h : Holder). h.chain) cut.holders in
    let states = flat_map state_orders cut.book.pipes in
    let others = unplaced_both (flat_map lane_orders cut.lanes) (chains ++ states) c.requires.unplaced in
    subst IsUnplaced (sym (ap (flat_map (λ (h : Holder). h.chain)) c.into_items-2.ensures)) (unplaced_both chains states others.right).left

pub lift-requires-clause-unplaced : goal.lift-requires-clause-unplaced
lift-requires-clause-unplaced c =
    let cut = c.args.self in
    let chains = flat_map (λ (h : Holder). h.chain) cut.holders in
    let states = flat_map state_orders cut.book.pipes in
    let others = unplaced_both (flat_map lane_orders cut.lanes) (chains ++ states) c.requires.unplaced in
    (unplaced_both chains states others.right).right
