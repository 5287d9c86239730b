-- What stands in a place of a list once one was set.
use Rattle.std.proofs.Common.{◌≡◌, ◌≢◌, ℕ, zero, suc, List, [], ◌∷◌, Some, refl, ap}
use Rattle.std.specs.Prelude.{slice_get, slice_set}

module _ {X : Type 0} where
  pub here : (xs : List X) (k : ℕ) (x y : X) → slice_get xs k ≡ Some y → slice_get (slice_set xs k x) k ≡ Some x
  here [] k x y e = absurd cc
  here (z ∷ xs) zero x y e = refl
  here (z ∷ xs) (suc k) x y e = here xs k x y e

  pub else_there : (xs : List X) (k j : ℕ) (x : X) → j ≢ k → slice_get (slice_set xs k x) j ≡ slice_get xs j
  else_there [] k j x apart = refl
  else_there (z ∷ xs) zero zero x apart = absurd (apart refl)
  else_there (z ∷ xs) zero (suc j) x apart = refl
  else_there (z ∷ xs) (suc k) zero x apart = refl
  else_there (z ∷ xs) (suc k) (suc j) x apart = else_there xs k j x (λ e. apart (ap suc e))
