use Rattle.std.specs.Prelude.{◌≡◌, ◌<◌, ◌≤◌, ◌++◌, ◌∷◌, [], ℕ, length}
use Rattle.eql_values.specs.Routing.{routed_items}
use Rattle.eql_conductor.specs.PartLists.{events_at}
use Rattle.eql_parts.specs.Spreading.{part_number}
use Rattle.eql_conductor.proofs.routing.add_to_each.Given as goal

abbrev pub invariant-loop-p : goal.invariant-loop-p
invariant-loop-p l = record {
  done : (k : ℕ) → k < l.p → events_at l.lists.items k ≡ events_at l.fn.lists.items k ++ routed_items part_number k (l.item ∷ []);
  left : (k : ℕ) → l.p ≤ k → events_at l.lists.items k ≡ events_at l.fn.lists.items k;
  count : length l.lists.items ≡ length l.fn.lists.items;
}
