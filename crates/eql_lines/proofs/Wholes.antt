-- A few digits are a number that fits.
use Rattle.std.proofs.Common.{◌≡◌, ℕ, ◌^◌, ◌<◌, ◌≤◌, List, [], ◌∷◌, ◌++◌, length, Bool, true, false, ◌&&◌, ◌==◌, nat_lt, is_some, Option, Some, None, if◌then◌else◌, refl, sym, ap, ap₂, ◌∙◌, arith, ne_eqb, lt-ltb}
use Rattle.std.specs.List.{list_all}
use Rattle.std.specs.Char.{is_ascii_digit}
use Rattle.std.specs.Str.{all_ascii_digits}
use Rattle.std.specs.Str.Parse.{AllDigits, digits_value}
use Rattle.std.specs.Float.Numeral.{Parts, text_of}
use Rattle.std.proofs.Math.Nat.{pow-le-pow_right}
use Rattle.std.proofs.lemmas.Float.Parse.{scan_numeral-text_of}
use Rattle.std.proofs.lemmas.Int.Digits.{digits_value-lt}
use Rattle.std.proofs.lemmas.Str.Parse.{numerals_by_value, tells_all_ascii_digits}
use Rattle.fast_float.specs.Text.{scan}
use Rattle.serde_json.specs.Data.{Num, unsigned}
use Rattle.serde_json.specs.Read.{number_of, number_from, is_integer, float_of}
use Rattle.eql_lines.proofs.Adding.{append_none}

same_test : (bs : List ℕ) → list_all is_ascii_digit bs ≡ all_ascii_digits bs
same_test [] = refl
same_test (c ∷ cs) = ap (λ b. is_ascii_digit c && b) (same_test cs)

-- the parts of a numeral that is digits alone
abbrev digits_alone : List ℕ → Parts
digits_alone bs = record { whole = bs; point = false; fraction = []; exponent_negative = false; exponent = []; len = length bs }

text_alone : (bs : List ℕ) → text_of (digits_alone bs) ≡ bs
text_alone bs = append_none bs

scan_alone : (bs : List ℕ) → AllDigits 10 bs → scan bs ≡ digits_alone bs
scan_alone bs digits =
    ap scan (sym (text_alone bs)) ∙ scan_numeral-text_of (digits_alone bs) (record {
      whole_digits = digits;
      fraction_digits = tt;
      exponent_digits = tt;
      no_point = λ e. refl;
      no_exponent = λ e. refl;
      len_is = ap (λ (l : List ℕ). length l) (sym (text_alone bs));
    })

whole_and_small : (a b : Bool) (n : ℕ) (o : Option Num) → a ≡ true → b ≡ true → is_some (if a && b then Some (unsigned n) else o) ≡ true
whole_and_small a b n o e f = ap₂ (λ a b. is_some (if a && b then Some (unsigned n) else o)) e f

small : (bs : List ℕ) → AllDigits 10 bs → length bs ≤ 19 → nat_lt (digits_value 10 (bs ++ [])) (2 ^ 64) ≡ true
small bs digits short =
    let below = digits_value-lt 10 bs digits in
    let power : 10 ^ length bs ≤ 10 ^ 19 = pow-le-pow_right (omega arith) short in
    ap (λ l. nat_lt (digits_value 10 l) (2 ^ 64)) (append_none bs) ∙ lt-ltb (digits_value 10 bs) (2 ^ 64) (omega (arith, below, power))

from_alone : (bs : List ℕ) → 0 < length bs → AllDigits 10 bs → length bs ≤ 19 → is_some (number_from false (digits_alone bs)) ≡ true
from_alone bs some digits short =
    whole_and_small (is_integer (digits_alone bs)) (nat_lt (digits_value 10 (bs ++ [])) (2 ^ 64)) (digits_value 10 (bs ++ [])) (float_of false (digits_alone bs))
    (ap (λ b. (b && true) && true) (lt-ltb 0 (length bs) some)) (small bs digits short)

not_minus : (c : ℕ) (cs : List ℕ) → (c == 45) ≡ false → number_of (c ∷ cs) ≡ number_from false (scan (c ∷ cs))
unfolding number_of
not_minus c cs e = rw e refl

pub short_fits : (bs : List ℕ) → 0 < length bs → length bs ≤ 19 → list_all is_ascii_digit bs ≡ true → is_some (number_of bs) ≡ true
short_fits [] some short digits = absurd (omega arith)
short_fits (c ∷ cs) some short digits =
    let all : all_ascii_digits (c ∷ cs) ≡ true = sym (same_test (c ∷ cs)) ∙ digits in
    let range = (tells_all_ascii_digits.parts c cs all).0 in
    let ds = (numerals_by_value (λ ds. all_ascii_digits ds ≡ true) tells_all_ascii_digits).to (c ∷ cs) all in
    let first : (c == 45) ≡ false = ne_eqb c 45 (λ e. omega (arith, e, range.0)) in
    ap is_some (not_minus c cs first ∙ ap (number_from false) (scan_alone (c ∷ cs) ds)) ∙ from_alone (c ∷ cs) some ds short

pub some_is : {A : Type 0} (o : Option A) → is_some o ≡ true → (a : A) × (o ≡ Some a)
some_is None e = absurd (cc)
some_is (Some a) e = (a, refl)

pub none_is : {A : Type 0} (o : Option A) → is_some o ≡ false → o ≡ None
none_is None e = refl
none_is (Some a) e = absurd (cc)
