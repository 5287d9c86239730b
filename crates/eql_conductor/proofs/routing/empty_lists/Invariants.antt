use Rattle.std.proofs.Common.{◌≡◌, ℕ, [], length}
use Rattle.eql_conductor.specs.PartLists.{events_at}
use Rattle.eql_conductor.proofs.routing.empty_lists.Given as goal

abbrev pub invariant-loop-list : goal.invariant-loop-list
invariant-loop-list l = (length l.lists.items ≡ l._list) × ((p : ℕ) → events_at l.lists.items p ≡ [])
