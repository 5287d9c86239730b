-- Lists by keys of their values.
use Rattle.std.proofs.Common.{◌≡◌, ◌&&◌, Bool, List, [], ◌∷◌, map, refl, ap}
use Rattle.std.specs.Ordering.{is_lt, on}
use Rattle.std.specs.FinMap.Entries.{below_all, is_sorted}
use Rattle.std.specs.declared.cmp.Ordering.{Ordering}
use Rattle.eql_values.specs.Adjacent.{begins_above, ascends_next}
use Rattle.eql_cut.specs.Ordered.{with_itself}

-- values that ascend by their keys are keys that ascend
module _ {A K : Type 0} (key : A → K) (R : K → K → Ordering) where
  begins_keyed : (x : A) (xs : List A) → begins_above (on key R) x (with_itself xs) ≡ begins_above R (key x) (map (λ (y : A). (key y, y)) xs)
  begins_keyed x [] = refl
  begins_keyed x (y ∷ xs) = refl

  pub ascends_keyed : (xs : List A) → ascends_next (on key R) (with_itself xs) ≡ ascends_next R (map (λ (y : A). (key y, y)) xs)
  ascends_keyed [] = refl
  ascends_keyed (x ∷ xs) = λ i. begins_keyed x xs i && ascends_keyed xs i

-- what is kept beside the keys doesn't matter
module _ {A K X Y : Type 0} (R : K → K → Ordering) (key : A → K) (f : A → X) (g : A → Y) where
  below_alike : (k : K) (xs : List A) → below_all R k (map (λ (x : A). (key x, f x)) xs) ≡ below_all R k (map (λ (x : A). (key x, g x)) xs)
  below_alike k [] = refl
  below_alike k (x ∷ xs) = ap (λ (b : Bool). is_lt (R k (key x)) && b) (below_alike k xs)

  pub sorted_alike : (xs : List A) → is_sorted R (map (λ (x : A). (key x, f x)) xs) ≡ is_sorted R (map (λ (x : A). (key x, g x)) xs)
  sorted_alike [] = refl
  sorted_alike (x ∷ xs) = λ i. below_alike (key x) xs i && sorted_alike xs i

-- entries that ascend by their keys
module _ {K X : Type 0} (R : K → K → Ordering) where
  begins_paired : (x : K × X) (xs : List (K × X)) → begins_above (on (λ (y : K × X). y.0) R) x (with_itself xs) ≡ begins_above R x.0 xs
  begins_paired x [] = refl
  begins_paired x (y ∷ xs) = refl

  pub ascends_paired : (xs : List (K × X)) → ascends_next (on (λ (y : K × X). y.0) R) (with_itself xs) ≡ ascends_next R xs
  ascends_paired [] = refl
  ascends_paired (x ∷ xs) = λ i. begins_paired x xs i && ascends_paired xs i
