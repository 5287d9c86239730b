-- The tests of masks.
use Rattle.std.proofs.Common.{◌≡◌, ℕ, zero, suc, ◌+◌, ◌-◌, ◌/◌, ◌%◌, ◌^◌, ◌<◌, ◌≤◌, true, false, Bool, eqb, ltb, cond, refl, sym, ap, ◌∙◌, arith}
use mathlib.Core.Logic.{⊎_elim}
use Rattle.std.proofs.Math.Nat.{pow-suc, div-le_self, zero-div}
use Rattle.std.proofs.lemmas.Nat.{shr-shr}
use Rattle.std.proofs.lemmas.Bool.{cases_lt}
use Rattle.std.proofs.lemmas.Nat.Bits.{bit_at-suc, bit_at_lowest, bit_at_above, bit_at-lt}
use Rattle.std.specs.Int.{bit_at}
use Rattle.eql_values.specs.declared.item.Mask.{Mask}
use Rattle.eql_values.specs.Masks.{has_stage}
use Rattle.eql_laws.specs.Bounds.{HasStagesTo}
use Rattle.eql_cut.specs.Fitting.{HasNoneFrom, none_above}
use Rattle.eql_cut.proofs.FitLaws.{stages_from, stages_to}

-- a number of which no bit is set is 0
no_bits : (k n : ℕ) → n < 2 ^ k → ((i : ℕ) → i < k → bit_at n i ≡ 0) → n ≡ 0
no_bits zero n lt none = omega arith
no_bits (suc k) n lt none =
    let below : n / 2 < 2 ^ k = omega (arith, pow-suc 2 k) in
    let half : n / 2 ≡ 0 = no_bits k (n / 2) below (λ i less. sym (bit_at-suc n i) ∙ none (suc i) (omega arith)) in
    omega (arith, half, none 0 (omega arith), bit_at_lowest n)

bit_shifted : (n bit i : ℕ) → bit_at (n / 2 ^ bit) i ≡ bit_at n (bit + i)
bit_shifted n bit i = ap (λ x. x % 2) (shr-shr n bit i)

pub none_from : (n bit : ℕ) → n / 2 ^ bit ≡ 0 → HasNoneFrom n bit
none_from n bit is k le lt =
    let split : k ≡ bit + (k - bit) = omega arith in
    ap (bit_at n) split ∙ sym (bit_shifted n bit (k - bit)) ∙ (λ i. bit_at (is i) (k - bit)) ∙ ap (λ x. x % 2) (zero-div (2 ^ (k - bit)))

pub none_to : (n bit : ℕ) → n < 2 ^ 128 → HasNoneFrom n bit → n / 2 ^ bit ≡ 0
none_to n bit lt none =
    no_bits 128 (n / 2 ^ bit) (omega (arith, div-le_self n (2 ^ bit)))
    (λ i less. bit_shifted n bit i ∙ ⊎_elim (λ (under : bit + i < 128). none (bit + i) (omega arith) under) (λ (over : 128 ≤ bit + i). bit_at_above n 128 (bit + i) lt over) (cases_lt (bit + i) 128))

bit_unset : (b : ℕ) → b ≡ 0 → eqb b 1 ≡ false
bit_unset b is = grind arith

unset_bit : (b : ℕ) → b < 2 → eqb b 1 ≡ false → b ≡ 0
unset_bit b lt is = grind arith

under : (k n : ℕ) → k < n → ltb k n ≡ true
under k n lt = grind arith

over : (k n : ℕ) → n ≤ k → ltb k n ≡ false
over k n le = grind arith

module _ (mask : Mask) where
  stage_low : (j : ℕ) → j < 128 → has_stage mask (suc j) ≡ eqb (bit_at mask.low j) 1
  stage_low j lt = ap (λ (b : Bool). cond b (eqb (bit_at mask.low j) 1) (eqb (bit_at mask.high (j - 128)) 1)) (under j 128 lt)

  stage_high : (j : ℕ) → 128 ≤ j → has_stage mask (suc j) ≡ eqb (bit_at mask.high (j - 128)) 1
  stage_high j le = ap (λ (b : Bool). cond b (eqb (bit_at mask.low j) 1) (eqb (bit_at mask.high (j - 128)) 1)) (over j 128 le)

  high_stages : (m : ℕ) → 128 ≤ m → HasNoneFrom mask.high (m - 128) → HasStagesTo m mask
  high_stages m le none zero lt to = absurd (omega arith)
  high_stages m le none (suc j) lt to = stage_high j (omega arith) ∙ bit_unset (bit_at mask.high (j - 128)) (none (j - 128) (omega arith) (omega arith))

  stages_high : (m : ℕ) → HasStagesTo m mask → (k : ℕ) → m - 128 ≤ k → k < 128 → bit_at mask.high k ≡ 0
  stages_high m stages k le lt =
      let back : (k + 128) - 128 ≡ k = omega arith in
      let unset : eqb (bit_at mask.high ((k + 128) - 128)) 1 ≡ false = sym (stage_high (k + 128) (omega arith)) ∙ stages (suc (k + 128)) (omega arith) (omega arith) in
      ap (bit_at mask.high) (sym back) ∙ unset_bit (bit_at mask.high ((k + 128) - 128)) (bit_at-lt mask.high ((k + 128) - 128)) unset

  low_stages : (m : ℕ) → HasNoneFrom mask.high 0 → HasNoneFrom mask.low m → HasStagesTo m mask
  low_stages m high low zero lt to = absurd (omega arith)
  low_stages m high low (suc j) lt to =
      ⊎_elim (λ (less : j < 128). stage_low j less ∙ bit_unset (bit_at mask.low j) (low j (omega arith) less))
      (λ (more : 128 ≤ j). stage_high j more ∙ bit_unset (bit_at mask.high (j - 128)) (high (j - 128) (omega arith) (omega arith))) (cases_lt j 128)

  stages_low : (m : ℕ) → HasStagesTo m mask → HasNoneFrom mask.low m
  stages_low m stages k le lt =
      unset_bit (bit_at mask.low k) (bit_at-lt mask.low k) (sym (stage_low k lt) ∙ stages (suc k) (omega arith) (omega arith))

  same_test : (a b : Bool) → (a ≡ true → b ≡ true) → (b ≡ true → a ≡ true) → a ≡ b
  same_test true b on back = sym (on refl)
  same_test false true on back = back refl
  same_test false false on back = refl

  pub above_high : (m : ℕ) (r : Bool) → 128 ≤ m → (r ≡ true → HasNoneFrom mask.high (m - 128)) → (HasNoneFrom mask.high (m - 128) → r ≡ true) → r ≡ none_above m mask
  above_high m r le tells told =
      same_test r (none_above m mask) (λ is. stages_to mask m (high_stages m le (tells is))) (λ is. told (λ k from less. stages_high m (stages_from mask m is) k from less))

  pub above_low : (m : ℕ) (b : Bool) → m < 128 → HasNoneFrom mask.high 0 → (b ≡ true → HasNoneFrom mask.low m) → (HasNoneFrom mask.low m → b ≡ true) → b ≡ none_above m mask
  above_low m b lt high tells told =
      same_test b (none_above m mask) (λ is. stages_to mask m (low_stages m high (tells is))) (λ is. told (stages_low m (stages_from mask m is)))

  pub some_above : (m : ℕ) (a : Bool) → m < 128 → (HasNoneFrom mask.high 0 → a ≡ true) → a ≡ false → a ≡ none_above m mask
  some_above m a lt told isnt =
      same_test a (none_above m mask) (λ is. cc) (λ is. told (λ k le less. stages_high m (stages_from mask m is) k (omega arith) less))
