-- What happens from one moment of a disk to a later one.
use Rattle.std.specs.Prelude.{◌≡◌, ◌≤◌, ◌⊎◌, ℕ, zero, suc}
use Rattle.eql_outside.specs.Areas.{Moment}
use Rattle.eql_outside.specs.Moments.{History, later}
use Rattle.eql_ckdisk.specs.Found.{Found, generation_of, EachFinds}

-- so many moments on, each of which is related so to the one before it
abbrev pub Steps : (Moment → Moment → Type 0) → ℕ → History → History → Type 0
Steps R zero h k = k ≡ h
Steps R (suc n) h k = (j : History) × Steps R n h j × (m : Moment) × (k ≡ later m j) × R j.now m

-- each moment since is related so to the one before it
abbrev pub Goes : (Moment → Moment → Type 0) → History → History → Type 0
Goes R h k = (n : ℕ) × Steps R n h k

-- each image at the moment has at least this generation
abbrev pub IsAtLeast : ℕ → Moment → Type 0
IsAtLeast g m = EachFinds (λ x. g ≤ generation_of x) m

-- where each image at the earlier moment has at least a generation, so has each at the later one
abbrev pub IsNoOlder : Moment → Moment → Type 0
IsNoOlder before m = (n : ℕ) → IsAtLeast n before → IsAtLeast n m

-- each image at the moment stands for one of these, and none is older than all at the moment before
pub record Keeps (f g : Found) (before m : Moment) : Type 0 where
  pub one : EachFinds (λ x. (x ≡ f) ⊎ (x ≡ g)) m
  pub no_older : IsNoOlder before m
