use Rattle.std.specs.Prelude.{◌≡◌, ℕ, length}
use Rattle.eql_conductor.specs.Finding.{own_of}
use Rattle.eql_search.specs.Running.{list_at}
use Rattle.eql_search.proofs.parting.split.Given as goal

abbrev pub invariant-loop-holder : goal.invariant-loop-holder
invariant-loop-holder l = record {
  count : length l.lists.items ≡ 16;
  own : (p : ℕ) → list_at l.lists.items p ≡ own_of l.yielded p;
}
