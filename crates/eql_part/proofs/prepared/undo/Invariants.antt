use Rattle.std.proofs.Common.{◌≡◌, ◌++◌, List, map, length}
use Rattle.eql_part.specs.Links.{Listed}
use Rattle.eql_part.specs.Routed.{tickets_in}
use Rattle.eql_part.proofs.prepared.undo.Given as goal

abbrev pub invariant-loop-last : goal.invariant-loop-last
invariant-loop-last l = record {
  there : (base : List Listed) × (begun : List Listed) × (l.list ≡ base ++ begun) × (map (λ (e : Listed). e.0) begun ≡ tickets_in l.prepared.items);
  base : (base begun : List Listed) → l.fn.list ≡ base ++ begun → map (λ (e : Listed). e.0) begun ≡ tickets_in l.fn.prepared.items
      → (left : List Listed) × (l.list ≡ base ++ left) × (map (λ (e : Listed). e.0) left ≡ tickets_in l.prepared.items);
}

abbrev pub decreases-loop-last : goal.decreases-loop-last
decreases-loop-last l = length l.prepared.items
