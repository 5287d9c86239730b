-- What holds of each place of a list once one more was put at its end.
use Rattle.std.proofs.Common.{◌≡◌, ℕ, zero, suc, ◌++◌, List, [], ◌∷◌, Some, length, subst}
use Rattle.std.specs.Prelude.{slice_get}
use Rattle.std.proofs.lemmas.Option.{none-some, same_Some}

pub each_more : {X : Type 0} (P : ℕ → X → Type 0) (xs : List X) (y : X) → ((k : ℕ) (x : X) → slice_get xs k ≡ Some x → P k x) → P (length xs) y
    → (k : ℕ) (x : X) → slice_get (xs ++ y ∷ []) k ≡ Some x → P k x
each_more P [] y each here zero x is = subst (λ z. P zero z) (same_Some y x is) here
each_more P [] y each here (suc k) x is = absurd (none-some x is)
each_more P (z ∷ xs) y each here zero x is = each zero x is
each_more P (z ∷ xs) y each here (suc k) x is = each_more (λ k. P (suc k)) xs y (λ k. each (suc k)) here k x is

pub each_none : {X : Type 0} (P : ℕ → X → Type 0) (k : ℕ) (x : X) → slice_get [] k ≡ Some x → P k x
each_none P k x is = absurd (none-some x is)
