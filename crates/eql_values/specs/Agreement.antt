-- Orders that agree with equality.
use Rattle.std.specs.Prelude.{◌≡◌, Bool, true}
use Rattle.std.specs.declared.cmp.Ordering.{Ordering}
use Rattle.std.specs.declared.cmp.Ordering.TheVariants.{Equal}

-- what compares as equal is one and the same
abbrev pub Agrees : {A : Type 0} → (A → A → Ordering) → Type 0
Agrees {A} cmp = (x y : A) → cmp x y ≡ Equal → x ≡ y

-- the test holds of no two things that differ
abbrev pub Tells : {A : Type 0} → (A → A → Bool) → Type 0
Tells {A} eq = (x y : A) → eq x y ≡ true → x ≡ y
