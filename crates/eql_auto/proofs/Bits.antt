-- The bits of a number, and the last that is set.
use Rattle.std.proofs.Common.{◌≡◌, ◌<◌, ◌≤◌, ◌+◌, ◌-◌, ◌*◌, ◌/◌, ◌%◌, ◌^◌, ℕ, suc, Bool, true, false, Option, Some, None, sym, ap, ◌∙◌, arith, subst, inl, inr, IfSome, IfNone}
use Rattle.std.specs.Prelude.{◌==◌}
use Rattle.std.specs.Int.{bit_at}
use Rattle.std.proofs.lemmas.Nat.{shr_split}
use Rattle.std.proofs.lemmas.Nat.Bits.{bit_at_cat_low, bit_at_cat_high, bit_at_above, bit_at-zero}
use Rattle.std.proofs.lemmas.Bool.{cases_lt}
use Rattle.std.proofs.lemmas.Bool.Decides.{nat_tests}
use Rattle.std.proofs.Math.Nat.{pow-le-pow_right, pow-succ', mod-eq_of_lt}
use Rattle.std.proofs.Math.Pow.{pow-lt}
use Rattle.eql_auto.specs.Movers.{IsLastBelow}

-- a number cut to its low bits has them
pub cut_bits : (n k j : ℕ) → j < k → bit_at (n % 2 ^ k) j ≡ bit_at n j
cut_bits n k j l = sym (bit_at_cat_low (n / 2 ^ k) k (n % 2 ^ k) j l) ∙ ap (λ (x : ℕ). bit_at x j) (shr_split n k)

-- the top bit of a number is set
top_bit : (n k : ℕ) → 2 ^ k ≤ n → n < 2 * 2 ^ k → bit_at n k ≡ 1
top_bit n k low high =
    let parts : 1 * 2 ^ k + (n - 2 ^ k) ≡ n = omega arith in
    let less : n - 2 ^ k < 2 ^ k = omega arith in
    let same : k - k ≡ 0 = omega arith in
    sym (ap (λ (x : ℕ). bit_at x k) parts) ∙ bit_at_cat_high 1 k (n - 2 ^ k) k less (omega arith) ∙ ap (λ (x : ℕ). bit_at 1 x) same

-- and none above it
none_above : (n k j : ℕ) → n < 2 * 2 ^ k → k < j → bit_at n j ≡ 0
none_above n k j high l = let less : n < 2 ^ suc k = omega (arith, pow-succ' 2 k) in bit_at_above n (suc k) j less (omega arith)

-- the top bit lies below a place where the number does
top_below : (n k place : ℕ) → 2 ^ k ≤ n → n < 2 ^ place → k < place
top_below n k place low high =
    elim (cases_lt k place) [ inl l ↦ l | inr g ↦ let more : 2 ^ place ≤ 2 ^ k = pow-le-pow_right (omega arith) g in absurd (omega arith) ]

is_one : (n : ℕ) → n ≡ 1 → (n == 1) ≡ true
is_one n e = grind (arith, nat_tests)

is_none : (n : ℕ) → n ≡ 0 → (n == 1) ≡ false
is_none n e = grind (arith, nat_tests)

not_one : (n : ℕ) → (n == 1) ≡ false → n < 2 → n ≡ 0
not_one n e l = grind (arith, nat_tests)

pub last_bit_of : (half kept place : ℕ) (found : Option ℕ) → ((j : ℕ) → j < place → bit_at kept j ≡ bit_at half j) → kept < 2 ^ place
    → IfNone found (kept ≡ 0) → IfSome found (λ k. 2 ^ k ≤ kept) → IfSome found (λ k. kept < 2 * 2 ^ k)
    → IsLastBelow (λ j. bit_at half j == 1) 0 place found
last_bit_of half kept place None bits small none low high =
    λ j from below. is_none (bit_at half j) (sym (bits j below) ∙ ap (λ (n : ℕ). bit_at n j) none ∙ bit_at-zero j)
last_bit_of half kept place (Some k) bits small none low high =
    let within = top_below kept k place low small in (
      omega arith,
      within,
      is_one (bit_at half k) (sym (bits k within) ∙ top_bit kept k low high),
      λ j above below. is_none (bit_at half j) (sym (bits j below) ∙ none_above kept k j high above),
    )

-- cutting by a power that fits
pub cut_within : (n k j : ℕ) → k < 128 → j < k → bit_at (n % (1 * 2 ^ k % 2 ^ 128)) j ≡ bit_at n j
cut_within n k j fits l =
    let more : 2 ^ k < 2 ^ 128 = pow-lt fits in
    let one : 1 * 2 ^ k ≡ 2 ^ k = omega arith in
    let same : 1 * 2 ^ k % 2 ^ 128 ≡ 2 ^ k = ap (λ (x : ℕ). x % 2 ^ 128) one ∙ mod-eq_of_lt more in
    ap (λ (x : ℕ). bit_at (n % x) j) same ∙ cut_bits n k j l

-- what was found, and that none was
pub found_last : (test : ℕ → Bool) (from below k : ℕ) (found : Option ℕ) → IsLastBelow test from below found → found ≡ Some k → IsLastBelow test from below (Some k)
found_last test from below k found h e = subst (IsLastBelow test from below) e h

pub found_none : (test : ℕ → Bool) (from below : ℕ) (found : Option ℕ) → IsLastBelow test from below found → found ≡ None → (j : ℕ) → from ≤ j → j < below → test j ≡ false
found_none test from below found h e = subst (IsLastBelow test from below) e h
