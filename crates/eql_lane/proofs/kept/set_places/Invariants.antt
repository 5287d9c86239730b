use Rattle.std.proofs.Common.{◌≡◌, ◌≤◌, ◌++◌, length, map, take, drop}
use Rattle.eql_lane.specs.Noting.{item_noted}
use Rattle.eql_lane.proofs.kept.set_places.Given as goal

abbrev pub invariant-loop-item : goal.invariant-loop-item
invariant-loop-item l = record {
  within : l.item-index ≤ length l.fn.items.items;
  items : l.item-items ≡ map (item_noted l.places) (take l.item-index l.fn.items.items) ++ drop l.item-index l.fn.items.items;
}
