-- Tags that come out of the table go over to those that ceased.
use Rattle.std.proofs.Common.{◌≡◌, ◌+◌, List, ◌++◌, length, sym, ◌∙◌, subst}
use Rattle.std.specs.List.Sorted.{IsPermutation}
use Rattle.std.proofs.lemmas.List.{append_assoc, length-append}
use Rattle.std.proofs.lemmas.List.Sorted.{IsPermutation-trans, IsPermutation-append_right, length_permutation}

module _ {T : Type 0} where
  pub goes_over : (gone out later before base now : List T) → IsPermutation (out ++ later) before → now ≡ gone ++ out → IsPermutation (gone ++ before) base
      → IsPermutation (now ++ later) base
  goes_over gone out later before base now goes is h =
      subst (λ (l : List T). IsPermutation (l ++ later) base) (sym is)
      (subst (λ (l : List T). IsPermutation l base) (sym (append_assoc gone out later))
      (IsPermutation-trans (gone ++ (out ++ later)) (gone ++ before) base (IsPermutation-append_right gone (out ++ later) before goes) h))

  -- there are as many as before
  pub as_many : (out later before : List T) → IsPermutation (out ++ later) before → length out + length later ≡ length before
  as_many out later before goes = sym (length-append out later) ∙ sym (length_permutation (out ++ later) before goes)
