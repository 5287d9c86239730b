-- Look-ups in entries that were put in order.
use Rattle.std.proofs.Common.{◌≡◌, Bool, true, false, List, [], ◌∷◌, ◌++◌, Option, Some, None, refl, ap, sym, ◌∙◌, T}
use Rattle.std.specs.Prelude.{cond}
use Rattle.std.specs.FinMap.Entries.{find, is_sorted, is_sorted-put, find-put, same_entries}
use Rattle.std.specs.Ordering.{eq_by_cmp}
use Rattle.std.specs.Cmp.{IsTotalOrder}
use Rattle.std.specs.FinMap.{IsAntisymmetric}
use Rattle.std.specs.declared.cmp.Ordering.{Ordering}
use Rattle.eql_values.specs.Ordered.{in_order, found_or}

either_found : {X : Type 0} (b : Bool) (x : X) (o p : Option X) → cond b (Some x) (found_or o p) ≡ found_or (cond b (Some x) o) p
either_found true x o p = refl
either_found false x o p = refl

pub both_none : {X : Type 0} (b : Bool) → ◌≡◌ {A = Option X} (cond b None None) None
both_none true = refl
both_none false = refl

module _ {K X : Type 0} (R : K → K → Ordering) where
  pub find-append : (q : K) (xs ys : List (K × X)) → find R q (xs ++ ys) ≡ found_or (find R q xs) (find R q ys)
  find-append q [] ys = refl
  find-append q (e ∷ xs) ys =
      ap (λ (o : Option X). cond (eq_by_cmp R q e.0) (Some e.1) o) (find-append q xs ys)
      ∙ either_found (eq_by_cmp R q e.0) e.1 (find R q xs) (find R q ys)

  module _ (total : IsTotalOrder R) where
    -- putting entries in order changes no look-up
    pub find-in_order : (q : K) (es : List (K × X)) → find R q (in_order R es) ≡ find R q es
    find-in_order q [] = refl
    find-in_order q (e ∷ es) =
        find-put R total q e.0 e.1 (in_order R es)
        ∙ ap (λ (o : Option X). cond (eq_by_cmp R q e.0) (Some e.1) o) (find-in_order q es)

    pub in_order-sorted : (es : List (K × X)) → T (is_sorted R (in_order R es))
    in_order-sorted [] = tt
    in_order-sorted (e ∷ es) = is_sorted-put R total e.0 e.1 (in_order R es) (in_order-sorted es)

    -- a list in order is what any entries with the same look-ups give
    pub is_in_order : IsAntisymmetric R → (es fs : List (K × X)) → T (is_sorted R es) → ((q : K) → find R q es ≡ find R q fs) → es ≡ in_order R fs
    is_in_order same es fs sorted is =
        same_entries R total same es (in_order R fs) sorted (in_order-sorted fs) (λ q. is q ∙ sym (find-in_order q fs))
