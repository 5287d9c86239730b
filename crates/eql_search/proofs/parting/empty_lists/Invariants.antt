use Rattle.std.proofs.Common.{◌≡◌, ℕ, [], length}
use Rattle.eql_search.specs.Running.{list_at}
use Rattle.eql_search.proofs.parting.empty_lists.Given as goal

abbrev pub invariant-loop-list : goal.invariant-loop-list
invariant-loop-list l = (length l.lists.items ≡ l._list) × ((p : ℕ) → list_at l.lists.items p ≡ [])
