-- Lists by their places.
use Rattle.std.proofs.Common.{◌≡◌, ◌⊎◌, inl, inr, ap, ◌++◌, ℕ, zero, suc, List, [], ◌∷◌, Some, All, length, get_or, refl, arith, subst}
use Rattle.std.specs.Prelude.{slice_get}
use Rattle.std.specs.List.{AllZip}
use Rattle.std.proofs.lemmas.Option.{get_or_from_slice_get, slice_get-get_or, slice_get_within}

-- what holds at each place holds of all
pub zip_by : {X : Type 0} (R : X → X → Type 0) (xs ys : List X) → length ys ≡ length xs
    → ((k : ℕ) (x y : X) → slice_get xs k ≡ Some x → slice_get ys k ≡ Some y → R x y) → AllZip R xs ys
zip_by R [] [] e each = tt
zip_by R [] (y ∷ ys) e each = absurd (omega (arith, e))
zip_by R (x ∷ xs) [] e each = absurd (omega (arith, e))
zip_by R (x ∷ xs) (y ∷ ys) e each = (each 0 x y refl refl, zip_by R xs ys (omega (arith, e)) (λ k. each (suc k)))

module _ {X : Type 0} (P : X → Type 0) (xs : List X) where
  pub all_by : ((k : ℕ) (x : X) → slice_get xs k ≡ Some x → P x) → All P xs
  all_by each k d within = each k (get_or xs k d) (slice_get-get_or xs k d within)

  pub all_at : All P xs → (k : ℕ) (x : X) → slice_get xs k ≡ Some x → P x
  all_at all k x there = subst P (get_or_from_slice_get xs k x x there) (all k x (slice_get_within xs k x there))

-- what stands in a place of a list with one more element
pub last_or : {X : Type 0} (xs : List X) (x y : X) (k : ℕ) → slice_get (xs ++ x ∷ []) k ≡ Some y → (slice_get xs k ≡ Some y) ⊎ ((k ≡ length xs) × (x ≡ y))
last_or [] x y zero there = inr (refl, cc)
last_or [] x y (suc k) there = absurd cc
last_or (z ∷ xs) x y zero there = inl there
last_or (z ∷ xs) x y (suc k) there = elim (last_or xs x y k there) [
  | inl in_front ↦ inl in_front
  | inr (at, same) ↦ inr (ap suc at, same)
]
