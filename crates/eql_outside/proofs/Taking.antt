-- A take of a source over a list of bytes.
use Rattle.std.proofs.Common.{◌≡◌, ℕ, ◌+◌, ◌≤◌, List, take, drop, length, Some, ap, sym, ◌∙◌, subst, arith}
use Rattle.std.proofs.lemmas.List.{drop-drop, length-take, take-take}
use Rattle.eql_outside.specs.Sources.{Takes}

-- the front of a piece of what is left is the front of what is left
pub takes : (all front into : List ℕ) (at piece n : ℕ) → front ≡ take piece (drop at all) → n ≤ length front → take n into ≡ take n front → Takes (drop at all) n into (Some (drop (at + n) all))
takes all front into at piece n is fits bytes =
    let short : n ≤ length (take piece (drop at all)) = subst (λ f. n ≤ length f) is fits in
    let e = length-take piece (drop at all) in
    let left : n ≤ length (drop at all) = omega arith in
    let small : n ≤ piece = omega arith in
    record {
      there = left;
      put = bytes ∙ ap (take n) is ∙ take-take n piece (drop at all) small;
      left = ap Some (sym (drop-drop n at all));
    }
