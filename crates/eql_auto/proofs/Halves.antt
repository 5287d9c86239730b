-- The last stage of a mask below a place, from the last bits of its halves.
use Rattle.std.proofs.Common.{◌≡◌, ◌<◌, ◌≤◌, ◌+◌, ◌-◌, ℕ, min, Bool, true, false, Some, None, ap, ◌∙◌, arith, inl, inr, if◌then◌else◌}
use Rattle.std.specs.Prelude.{◌==◌, nat_lt}
use Rattle.std.specs.Int.{bit_at}
use Rattle.std.proofs.lemmas.Bool.{cases_lt}
use Rattle.std.proofs.lemmas.Bool.Decides.{nat_tests}
use Rattle.eql_values.specs.declared.item.Mask.{Mask}
use Rattle.eql_values.specs.Masks.{has_after}
use Rattle.eql_auto.specs.Movers.{IsLastBelow}

is_less : (j k : ℕ) → j < k → nat_lt j k ≡ true
is_less j k l = grind (arith, nat_tests)

is_no_less : (j k : ℕ) → k ≤ j → nat_lt j k ≡ false
is_no_less j k l = grind (arith, nat_tests)

module _ (mask : Mask) where
  abbrev low_bit : ℕ → Bool
  low_bit j = bit_at mask.low j == 1

  abbrev high_bit : ℕ → Bool
  high_bit j = bit_at mask.high j == 1

  has_low : (j : ℕ) → j < 128 → has_after j mask ≡ low_bit j
  has_low j l = ap (λ (b : Bool). if b then low_bit j else high_bit (j - 128)) (is_less j 128 l)

  has_high : (j : ℕ) → 128 ≤ j → has_after j mask ≡ high_bit (j - 128)
  has_high j l = ap (λ (b : Bool). if b then low_bit j else high_bit (j - 128)) (is_no_less j 128 l)

  -- a bit of the upper half is the last
  pub in_high : (below bit : ℕ) → 128 < below → IsLastBelow high_bit 0 (below - 128) (Some bit) → IsLastBelow (λ j. has_after j mask) 1 below (Some (bit + 128))
  in_high below bit wide h =
      let same : bit + 128 - 128 ≡ bit = omega arith in
      let less = h.1 in (
        omega arith,
        omega arith,
        has_high (bit + 128) (omega arith) ∙ ap high_bit same ∙ h.2,
        λ j above under. has_high j (omega arith) ∙ h.3 (j - 128) (omega arith) (omega arith),
      )

  -- the upper half has no bit below the place
  abbrev pub HasNoneHigh : ℕ → Type 0
  HasNoneHigh below = (j : ℕ) → 128 ≤ j → j < below → has_after j mask ≡ false

  pub none_high : (below : ℕ) → IsLastBelow high_bit 0 (below - 128) None → HasNoneHigh below
  none_high below none j from under = has_high j from ∙ none (j - 128) (omega arith) (omega arith)

  pub short : (below : ℕ) → below ≤ 128 → HasNoneHigh below
  short below few j from under = absurd (omega arith)

  -- a bit of the lower half is the last
  pub in_low : (below limit bit : ℕ) → limit ≡ min below 128 → HasNoneHigh below → 0 < bit → IsLastBelow low_bit 0 limit (Some bit)
      → IsLastBelow (λ j. has_after j mask) 1 below (Some bit)
  in_low below limit bit is none first h =
      let less = h.1 in (
        omega arith,
        omega arith,
        has_low bit (omega arith) ∙ h.2,
        λ j above under. elim (cases_lt j 128) [ inl l ↦ has_low j l ∙ h.3 j above (omega arith) | inr g ↦ none j g under ],
      )

  -- neither half has a bit, or the lower one its first alone
  pub in_neither : (below limit : ℕ) → limit ≡ min below 128 → HasNoneHigh below → IsLastBelow low_bit 0 limit None → IsLastBelow (λ j. has_after j mask) 1 below None
  in_neither below limit is none h = λ j from under.
      elim (cases_lt j 128) [ inl l ↦ has_low j l ∙ h j (omega arith) (omega arith) | inr g ↦ none j g under ]

  pub first_alone : (below limit bit : ℕ) → limit ≡ min below 128 → HasNoneHigh below → bit ≤ 0 → IsLastBelow low_bit 0 limit (Some bit)
      → IsLastBelow (λ j. has_after j mask) 1 below None
  first_alone below limit bit is none zero h = λ j from under.
      elim (cases_lt j 128) [ inl l ↦ has_low j l ∙ h.3 j (omega arith) (omega arith) | inr g ↦ none j g under ]
