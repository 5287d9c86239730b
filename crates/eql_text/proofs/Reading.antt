-- Numerals read digit by digit, held at the greatest of 64 unsigned bits.
use Rattle.std.proofs.Common.{◌≡◌, ℕ, ◌+◌, ◌*◌, ◌-◌, ◌^◌, ◌<◌, ◌≤◌, min, Bool, true, false, List, [], ◌∷◌, ◌&&◌, cond, Option, Some, None, refl, sym, ap, ◌∙◌, arith, ltb, zero, suc, drop, mul-suc, inl, inr}
use Rattle.std.proofs.lemmas.Bool.{cases_lt}
use Rattle.std.specs.Option.{option_map}
use Rattle.std.specs.List.{list_all}
use Rattle.std.specs.Char.{digit_value}
use Rattle.std.specs.Str.Parse.{digits_value_after}
use Rattle.std.proofs.lemmas.Bool.Decides.{nat_tests}
use Rattle.eql_text.specs.Numbers.{numeral, capped_number, positive, parse_long, read_number}
use Rattle.eql_text.specs.Comparing.{starts}
use Rattle.std.specs.Str.{chars}
use Rattle.std.specs.Prelude.{codes}

abbrev all_digits : ℕ → List ℕ → Bool
all_digits base s = list_all (λ d. ltb (digit_value d) base) s

-- the number that was read, when the digits s follow those of n
unfoldable pub read_on : ℕ → ℕ → List ℕ → Option ℕ
read_on base n s = option_map capped_number (cond (all_digits base s) (Some (digits_value_after base n s)) None)

digit : (base c : ℕ) → digit_value c < base → ltb (digit_value c) base ≡ true
digit base c h = grind (arith, nat_tests)

no_digit : (base c : ℕ) → (digit_value c < base → ⊥) → ltb (digit_value c) base ≡ false
no_digit base c h = grind (arith, nat_tests)

pub read_first : (base c : ℕ) (s : List ℕ) → digit_value c < base → option_map capped_number (numeral base (c ∷ s)) ≡ read_on base (digit_value c) s
unfolding read_on
read_first base c s h =
    let value : 0 * base + digit_value c ≡ digit_value c = omega arith in
    ap (λ b. option_map capped_number (cond (b && all_digits base s) (Some (digits_value_after base (0 * base + digit_value c) s)) None)) (digit base c h)
    ∙ ap (λ n. option_map capped_number (cond (all_digits base s) (Some (digits_value_after base n s)) None)) value

pub read_first_none : (base c : ℕ) (s : List ℕ) → (digit_value c < base → ⊥) → option_map capped_number (numeral base (c ∷ s)) ≡ None
read_first_none base c s h =
    ap (λ b. option_map capped_number (cond (b && all_digits base s) (Some (digits_value_after base (0 * base + digit_value c) s)) None)) (no_digit base c h)

pub read_more_none : (base n c : ℕ) (s : List ℕ) → (digit_value c < base → ⊥) → read_on base n (c ∷ s) ≡ None
unfolding read_on
read_more_none base n c s h =
    ap (λ b. option_map capped_number (cond (b && all_digits base s) (Some (digits_value_after base (n * base + digit_value c) s)) None)) (no_digit base c h)

-- a number that is held gives the same as the number itself, times a base and with a digit
grows : (n base : ℕ) → 1 ≤ base → n ≤ n * base
grows n zero h = absurd (omega arith)
grows n (suc k) h = omega (arith, mul-suc n k)

held_step : (n base d : ℕ) → 1 ≤ base → capped_number (capped_number n * base + d) ≡ capped_number (n * base + d)
held_step n base d h = elim (cases_lt n (2 ^ 64)) [
  | inl small ↦ let same : capped_number n ≡ n = omega arith in ap (λ m. capped_number (m * base + d)) same
  | inr great ↦
      let most : capped_number n ≡ 2 ^ 64 - 1 = omega arith in
      let below : n ≤ n * base = grows n base h in
      let least : 2 ^ 64 - 1 ≤ (2 ^ 64 - 1) * base = grows (2 ^ 64 - 1) base h in
      let full : capped_number ((2 ^ 64 - 1) * base + d) ≡ 2 ^ 64 - 1 = omega arith in
      let over : capped_number (n * base + d) ≡ 2 ^ 64 - 1 = omega arith in
      ap (λ m. capped_number (m * base + d)) most ∙ full ∙ sym over
]

held_on : (base n : ℕ) (s : List ℕ) → 1 ≤ base → capped_number (digits_value_after base (capped_number n) s) ≡ capped_number (digits_value_after base n s)
held_on base n [] h = omega arith
held_on base n (c ∷ s) h =
    sym (held_on base (capped_number n * base + digit_value c) s h)
    ∙ ap (λ m. capped_number (digits_value_after base m s)) (held_step n base (digit_value c) h)
    ∙ held_on base (n * base + digit_value c) s h

pub read_more : (base n c : ℕ) (s : List ℕ) → 1 ≤ base → digit_value c < base → read_on base n (c ∷ s) ≡ read_on base (min (min (n * base) (2 ^ 64 - 1) + digit_value c) (2 ^ 64 - 1)) s
unfolding read_on
read_more base n c s one h =
    let sums : min (min (n * base) (2 ^ 64 - 1) + digit_value c) (2 ^ 64 - 1) ≡ capped_number (n * base + digit_value c) = omega arith in
    ap (λ b. option_map capped_number (cond (b && all_digits base s) (Some (digits_value_after base (n * base + digit_value c) s)) None)) (digit base c h)
    ∙ kept (all_digits base s) _ _ (sym (held_on base (n * base + digit_value c) s one))
    ∙ ap (λ m. option_map capped_number (cond (all_digits base s) (Some (digits_value_after base m s)) None)) (sym sums)
  where
    kept : (b : Bool) (m k : ℕ) → capped_number m ≡ capped_number k → option_map capped_number (cond b (Some m) None) ≡ option_map capped_number (cond b (Some k) None)
    kept true m k e = ap Some e
    kept false m k e = refl

pub read_end : (base n : ℕ) → n < 2 ^ 64 → read_on base n [] ≡ Some n
unfolding read_on
read_end base n h = let e : capped_number n ≡ n = omega arith in ap Some e

-- what saturating arithmetic makes of a number, a base and a digit
pub saturated : (a m b n d base digit : ℕ) → a ≡ min (m + d) (2 ^ 64 - 1) → m ≡ min (n * b) (2 ^ 64 - 1) → b ≡ base → d ≡ digit → a ≡ min (min (n * base) (2 ^ 64 - 1) + digit) (2 ^ 64 - 1)
saturated a m b n d base digit sum product same_base same_digit =
    sum ∙ ap (λ k. min (k + d) (2 ^ 64 - 1)) product ∙ ap (λ k. min (min (n * k) (2 ^ 64 - 1) + d) (2 ^ 64 - 1)) same_base
    ∙ ap (λ k. min (min (n * base) (2 ^ 64 - 1) + k) (2 ^ 64 - 1)) same_digit

-- the bytes of `0x` are its characters
pub hex_prefix : chars (48 ∷ 120 ∷ []) ≡ codes "0x"
unfolding chars
hex_prefix = refl

pub hex_number : (s : List ℕ) → true ≡ starts false s (codes "0x") → read_number s ≡ positive (numeral 16 (drop 2 s))
unfolding read_number
hex_number s e = ap (λ b. cond b (positive (numeral 16 (drop 2 s))) (parse_long s)) (sym e)

pub decimal_number : (s : List ℕ) → false ≡ starts false s (codes "0x") → read_number s ≡ parse_long s
unfolding read_number
decimal_number s e = ap (λ b. cond b (positive (numeral 16 (drop 2 s))) (parse_long s)) (sym e)
