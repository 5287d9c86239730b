-- The greatest number that passes a test.
use Rattle.std.specs.Prelude.{◌≡◌, ◌<◌, ◌≤◌, ℕ, Bool, true, false, Option, Some, None}

-- the greatest number from one on and below another that passes the test, or none where none does
abbrev pub IsLastBelow : (ℕ → Bool) → (from below : ℕ) → Option ℕ → Type 0
IsLastBelow test from below None = (j : ℕ) → from ≤ j → j < below → test j ≡ false
IsLastBelow test from below (Some k) = (from ≤ k) × (k < below) × (test k ≡ true) × ((j : ℕ) → k < j → j < below → test j ≡ false)
