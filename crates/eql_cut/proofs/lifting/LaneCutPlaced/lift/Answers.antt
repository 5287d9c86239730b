use Rattle.std.proofs.Common.{map, sym, ap, subst, ◌∙◌}
use Rattle.eql_values.specs.declared.item.Item.{Item}
use Rattle.eql_cut.specs.Placing.{IsUnplaced}
use Rattle.eql_cut.proofs.PlaceLaws.{flat_items}
use Rattle.eql_cut.proofs.lifting.LaneCutPlaced.lift.Goals as goal

pub lift_each-requires-clause-unplaced : goal.lift_each-requires-clause-unplaced
lift_each-requires-clause-unplaced c = subst IsUnplaced (sym (flat_items c.into_items.result.items ∙ ap (map (λ (i : Item). i.order)) c.into_items.ensures)) c.requires.unplaced
