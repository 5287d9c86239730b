use Rattle.std.proofs.Common.{◌≡◌, ◌++◌, All, map, length}
use Rattle.std.specs.Vec.Iter.{into_iter_items, into_iter_len}
use Rattle.eql_cut.specs.Placing.{IsUnplaced, listed_place}
use Rattle.eql_cut.proofs.placed.lift_each.Given as goal

abbrev pub invariant-loop-item : goal.invariant-loop-item
invariant-loop-item g l = record {
  parts : map (g.T.Placed.lifted (listed_place l.places)) l.fn.items.items ≡ l.lifted.items ++ map (g.T.Placed.lifted (listed_place l.places)) (into_iter_items l.item-iterator);
  left : All (λ x. IsUnplaced (g.T.Placed.orders x)) (into_iter_items l.item-iterator);
  many : into_iter_len l.item-iterator ≡ length (into_iter_items l.item-iterator);
}
