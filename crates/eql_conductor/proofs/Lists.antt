-- What stands in a place of a list.
use Rattle.std.proofs.Common.{◌≡◌, ℕ, zero, suc, ◌<◌, List, [], ◌∷◌, Some, length, refl, arith}
use Rattle.std.specs.Prelude.{slice_get}

module _ {X : Type 0} where
  pub there_or : (xs : List X) (k : ℕ) → k < length xs → (x : X) × (slice_get xs k ≡ Some x)
  there_or [] k h = absurd (omega (arith, h))
  there_or (x ∷ xs) zero h = (x, refl)
  there_or (x ∷ xs) (suc k) h = there_or xs k (omega (arith, h))
