-- Numbers and times in words.
use Rattle.std.proofs.Common.{◌≡◌, ◌≢◌, ℕ, ◌-◌, ◌*◌, ◌^◌, ◌<◌, ◌≤◌, Bool, true, false, ltb, leb, List, [], ◌∷◌, ◌++◌, length, take, Some, None, Result, refl, ap, ◌∙◌, arith}
use Rattle.std.specs.Prelude.{◌&&◌, nat_eq, option_map}
use Rattle.std.specs.Char.{is_ascii_digit}
use Rattle.std.specs.List.{list_all, ends_with}
use Rattle.std.specs.Result.{result_ok}
use Rattle.std.specs.Str.{all_ascii_digits}
use Rattle.std.specs.Str.Parse.{digits_value, ParsesUnsigned}
use Rattle.std.specs.Str.Pattern.{StripsSuffix, FindsTextSuffix}
use Rattle.std.proofs.lemmas.Bool.{lt-ltb, le-leb}
use Rattle.std.proofs.lemmas.Bool.Decides.{Decides-eqb}
use Rattle.std.proofs.lemmas.Slice.Eq.{ends_is}
use Rattle.std.proofs.lemmas.Str.Parse.{IsNumeralModel, numerals_by_value, tells_all_ascii_digits, parse_gives, digits_value_short}
use Rattle.eql_words.specs.Numbers.{number_of, in_unit}

pub all_digits : (ds : List ℕ) → list_all is_ascii_digit ds ≡ all_ascii_digits ds
all_digits [] = refl
all_digits (d ∷ ds) = ap (λ (b : Bool). is_ascii_digit d && b) (all_digits ds)

own : IsNumeralModel (λ ds. all_ascii_digits ds ≡ true) (digits_value 10)
own = numerals_by_value (λ ds. all_ascii_digits ds ≡ true) tells_all_ascii_digits

-- few digits write a number that fits
pub number_short : (most : ℕ) (word : List ℕ) → length word ≤ most → all_ascii_digits word ≡ true → digits_value 10 word < 10 ^ most
number_short most word few digits = digits_value_short own word most digits few

pub number_is : (most : ℕ) (word : List ℕ) → 0 < length word → length word ≤ most → all_ascii_digits word ≡ true
    → number_of most word ≡ Some (digits_value 10 word)
number_is most word some few digits =
    let is_some : ltb 0 (length word) ≡ true = lt-ltb 0 (length word) some in
    let is_few : leb (length word) most ≡ true = le-leb (length word) most few in
    rw (is_some, is_few, digits)

-- what `parse` gives is the number
pub number_parsed : {E : Type 0} (most : ℕ) (word : List ℕ) (r : Result ℕ E) → ParsesUnsigned 64 10 word r
    → 0 < length word → length word ≤ most → most ≤ 19 → all_ascii_digits word ≡ true
    → result_ok r ≡ Some (digits_value 10 word)
number_parsed most word r parses some few low digits =
    let below : digits_value 10 word < 10 ^ 19 = digits_value_short own word 19 digits (omega arith) in
    let fits : digits_value 10 word < 2 ^ 64 = omega arith in
    ap result_ok (parse_gives own 64 word r parses digits some fits)

-- a word that doesn't end with the unit
pub no_unit : (unit word : List ℕ) (each : ℕ) → ((front : List ℕ) → word ≢ front ++ unit) → in_unit unit each word ≡ None
no_unit unit word each none =
    let ends : (b : Bool) → b ≡ ends_with nat_eq word unit → b ≡ false = by_test in
    let is_false : ends_with nat_eq word unit ≡ false = ends (ends_with nat_eq word unit) refl in
    rw is_false
  where
    by_test : (b : Bool) → b ≡ ends_with nat_eq word unit → b ≡ false
    by_test false e = refl
    by_test true e = absurd (none _ ((ends_is Decides-eqb word unit true e).0 refl))

-- a word that ends with the unit, behind digits
pub unit_read : (unit word digits : List ℕ) (each number : ℕ) → StripsSuffix (FindsTextSuffix unit) word digits
    → Some number ≡ number_of 10 digits → Some (number * each) ≡ in_unit unit each word
unit_read unit word digits each number strips is =
    let ends : ends_with nat_eq word unit ≡ true =
    (ends_is Decides-eqb word unit (ends_with nat_eq word unit) refl).1 (take (length word - strips.0) word) strips.1.1 in
    let part : digits ≡ take (length word - length unit) word =
    strips.2 ∙ ap (λ (k : ℕ). take (length word - k) word) strips.1.0 in
    let value : Some number ≡ number_of 10 (take (length word - length unit) word) = is ∙ ap (number_of 10) part in
    rw ends (ap (option_map (λ (n : ℕ). n * each)) value)
