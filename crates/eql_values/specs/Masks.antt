-- Sets of stages.
use Rattle.std.specs.Prelude.{◌≡◌, ℕ, zero, suc, ◌+◌, ◌-◌, ◌^◌, Bool, true, false, if◌then◌else◌, ◌==◌, nat_lt, [], ◌∷◌, map, refl}
use Rattle.std.specs.Int.{bit_at}
use Rattle.eql_values.specs.declared.item.Mask.{Mask}

-- the mask has the stage after this many stages: the lower half has the first 128 stages, and the upper half the others
abbrev pub has_after : ℕ → Mask → Bool
has_after k mask = if nat_lt k 128 then bit_at mask.low k == 1 else bit_at mask.high (k - 128) == 1

-- the mask has the stage
abbrev pub has_stage : Mask → ℕ → Bool
has_stage mask zero = false
has_stage mask (suc k) = has_after k mask

-- the halves meet between the stages 128 and 129: the top bit of the lower half is stage 128, and of the upper half stage 256
abbrev edges : Mask
edges = record { low = 2 ^ 127; high = 2 ^ 127 + 1 }

stages_at_edges : map (has_stage edges) (1 ∷ 127 ∷ 128 ∷ 129 ∷ 130 ∷ 255 ∷ 256 ∷ [])
    ≡ false ∷ false ∷ true ∷ true ∷ false ∷ false ∷ true ∷ []
stages_at_edges = refl
