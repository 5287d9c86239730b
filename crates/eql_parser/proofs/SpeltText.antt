-- What is printed for a number, a string or a name in backticks reads as that token, whatever follows.
use Rattle.std.proofs.Common.{◌≡◌, ℕ, ◌+◌, ◌<◌, ◌^◌, zero, suc, pos, Bool, true, false, List, [], ◌∷◌, ◌++◌, drop, take, cond, refl, sym, ap, subst, ◌∙◌, arith, ◌==◌, ◌/◌, ◌%◌, ◌*◌, ◌-◌}
use Rattle.std.specs.List.{take_while, prefix_len}
use Rattle.std.specs.Fmt.{digits, digits_onto, digit_glyph, decimal}
use Rattle.std.proofs.lemmas.Bool.{false≢true}
use Rattle.std.proofs.lemmas.Bool.Decides.{nat_tests}
use Rattle.std.proofs.lemmas.Str.{encodes-append, encode_ascii}
use lib.Utf8.{encodes}
use Rattle.eql_lexer.specs.declared.token.Tok.{Tok}
use Rattle.eql_lexer.specs.declared.token.Tok.TheVariants as tok
use Rattle.eql_lexer.specs.Bytes.{is_white, is_digit, begins, begins_fraction, number}
use Rattle.eql_lexer.specs.Blanks.{gap}
use Rattle.eql_lexer.specs.Spelling.{IsLexeme}
use Rattle.eql_parser.proofs.Spelt.{Lexes, Spelt}

abbrev AllDigits : List ℕ → Type 0
AllDigits [] = Unit {0}
AllDigits (d ∷ ds) = (is_digit d ≡ true) × AllDigits ds

glyph_digit : (d : ℕ) → d < 10 → is_digit (digit_glyph false d) ≡ true
glyph_digit d h = grind (arith, nat_tests)

glyph_value : (m d : ℕ) → d < 10 → m * 10 + (digit_glyph false d - 48) ≡ m * 10 + d
glyph_value m d h = grind (arith, nat_tests)

below_ten : (n : ℕ) → n % 10 < 10
below_ten n = omega arith

-- a number, digits that the writing of it begins with, and the digits behind them
abbrev Value : ℕ → List ℕ → List ℕ → Type 0
Value n acc ds = AllDigits ds × (number 0 ds ≡ number n acc) × ((b : ℕ) × (bs : List ℕ) × (ds ≡ b ∷ bs))

pick : (b : Bool) (n : ℕ) (acc xs ys : List ℕ) → (b ≡ true → Value n acc xs) → (b ≡ false → Value n acc ys) → Value n acc (cond b xs ys)
pick true n acc xs ys h k = h refl
pick false n acc xs ys h k = k refl

zero_quotient : (n : ℕ) → (n / 10 == 0) ≡ true → n % 10 ≡ n
zero_quotient n h = grind (arith, nat_tests)

first_value : (n : ℕ) → (n / 10 == 0) ≡ true → 0 * 10 + (digit_glyph false (n % 10) - 48) ≡ n
first_value n e = omega (arith, glyph_value 0 (n % 10) (below_ten n), zero_quotient n e)

split_ten : (n : ℕ) → n / 10 * 10 + n % 10 ≡ n
split_ten n = omega arith

less : (n m : ℕ) → n < 2 * m → n / 10 < m
less n m h = omega (arith, h)

nothing : (n : ℕ) → n < 1 → (n / 10 == 0) ≡ true
nothing n h = grind (arith, nat_tests)

written : (k n : ℕ) (acc : List ℕ) → n < 2 ^ k → AllDigits acc → Value n acc (digits_onto (suc k) 10 false n acc)
written zero n acc h a =
    pick (n / 10 == 0) n acc (digit_glyph false (n % 10) ∷ acc) (digit_glyph false (n % 10) ∷ acc)
    (λ e. ((glyph_digit (n % 10) (below_ten n), a), ap (λ m. number m acc) (first_value n e), (_, _, refl)))
    (λ e. absurd (false≢true (sym e ∙ nothing n h)))
written (suc k) n acc h a =
    let glyph = digit_glyph false (n % 10) in
    let digit = glyph_digit (n % 10) (below_ten n) in
    pick (n / 10 == 0) n acc (glyph ∷ acc) (digits_onto (suc k) 10 false (n / 10) (glyph ∷ acc))
    (λ e. ((digit, a), ap (λ m. number m acc) (first_value n e), (_, _, refl)))
    (λ e. let more = written k (n / 10) (glyph ∷ acc) (less n (2 ^ k) (omega (arith, h))) (digit, a) in
    (more.0, more.1 ∙ ap (λ m. number m acc) (glyph_value (n / 10) (n % 10) (below_ten n) ∙ split_ten n), more.2))

decimal_is : (n : ℕ) → n < 2 ^ 63 → Value n [] (decimal n)
unfolding digits
decimal_is n h = written 63 n [] h tt

-- behind a number
abbrev pub AfterNumber : List ℕ → Type 0
AfterNumber [] = Unit {0}
AfterNumber (c ∷ cs) = (c < 128) × (is_digit c ≡ false) × ((c == 46) ≡ false)

abbrev NumberEnds : List ℕ → Type 0
NumberEnds [] = Unit {0}
NumberEnds (b ∷ bs) = (is_digit b ≡ false) × ((b == 46) ≡ false)

number_ends : (cs : List ℕ) → AfterNumber cs → NumberEnds (encodes cs)
number_ends [] h = tt
number_ends (c ∷ cs) h = subst (λ bs. NumberEnds (bs ++ encodes cs)) (sym (encode_ascii c h.0)) (h.1, h.2)

no_fraction : (bs : List ℕ) → NumberEnds bs → begins_fraction bs ≡ false
no_fraction [] h = refl
no_fraction (b ∷ bs) h = let e = h.1 in rw e refl

digits_front : (ds bs : List ℕ) → AllDigits ds → NumberEnds bs → (take (prefix_len is_digit (ds ++ bs)) (ds ++ bs) ≡ ds) × (drop (prefix_len is_digit (ds ++ bs)) (ds ++ bs) ≡ bs)
digits_front [] [] h e = (refl, refl)
digits_front [] (b ∷ bs) h e = let no = e.0 in rw no (refl, refl)
digits_front (d ∷ ds) bs h e =
    let k = digits_front ds bs h.1 e in
    let yes = h.0 in
    let one : 1 + prefix_len is_digit (ds ++ bs) ≡ suc (prefix_len is_digit (ds ++ bs)) = omega arith in
    rw (yes, one) (ap (λ l. d ∷ l) k.0, k.1)

digit_solid : (b : ℕ) (bs : List ℕ) → is_digit b ≡ true → gap (b ∷ bs) ≡ b ∷ bs
digit_solid b bs h =
    let no_white : is_white b ≡ false = grind (arith, nat_tests) in
    let no_slash : (b == 47) ≡ false = grind (arith, nat_tests) in
    rw (no_white, no_slash) refl

digit_small : (c : ℕ) → is_digit c ≡ true → c < 128
digit_small c h = grind (arith, nat_tests)

digits_bytes : (ds : List ℕ) → AllDigits ds → encodes ds ≡ ds
digits_bytes [] h = refl
digits_bytes (d ∷ ds) h = ap (λ bs. bs ++ encodes ds) (encode_ascii d (digit_small d h.0)) ∙ ap (λ bs. d ∷ bs) (digits_bytes ds h.1)

digits_s : (n : ℕ) (ds rest : List ℕ) (us : List Tok) → n < 2 ^ 63 → Value n [] ds → AfterNumber rest → Spelt rest us → Spelt (ds ++ rest) (tok.Num (pos n) ∷ us)
digits_s n [] rest us small h e k = absurd (no_cons _ _ h.2.2)
  where
    no_cons : (b : ℕ) (bs : List ℕ) → [] ≡ b ∷ bs → ⊥
    no_cons b bs x = cc
digits_s n (d ∷ ds) rest us small h e k =
    let bytes : encodes (d ∷ ds ++ rest) ≡ d ∷ (ds ++ encodes rest) = encodes-append (d ∷ ds) rest ∙ ap (λ l. l ++ encodes rest) (digits_bytes (d ∷ ds) h.0) in
    let more = digits_front ds (encodes rest) h.0.1 (number_ends rest e) in
    let value : number 0 (d ∷ take_while is_digit (ds ++ encodes rest)) ≡ n = ap (λ l. number 0 (d ∷ l)) more.0 ∙ h.1 in
    subst (λ text. Lexes text (tok.Num (pos n) ∷ us)) (sym bytes) (
      encodes rest,
      subst (λ text. IsLexeme text (tok.Num (pos n)) (encodes rest)) (sym (digit_solid d (ds ++ encodes rest) h.0.0))
          (h.0.0, ap pos (sym value), subst (λ m. m < 2 ^ 63) (sym value) small, sym more.1, no_fraction (encodes rest) (number_ends rest e)),
      k,
    )

pub number_s : (n : ℕ) (rest : List ℕ) (us : List Tok) → n < 2 ^ 63 → AfterNumber rest → Spelt rest us → Spelt (decimal n ++ rest) (tok.Num (pos n) ∷ us)
number_s n rest us small e k = digits_s n (decimal n) rest us small (decimal_is n small) e k

not_assign : (d : ℕ) → is_digit d ≡ true → (d == 61) ≡ false
not_assign d h = grind (arith, nat_tests)

digits_begin : (n : ℕ) (ds rest : List ℕ) → Value n [] ds → begins 61 (encodes (ds ++ rest)) ≡ false
digits_begin n [] rest h = absurd (no_cons _ _ h.2.2)
  where
    no_cons : (b : ℕ) (bs : List ℕ) → [] ≡ b ∷ bs → ⊥
    no_cons b bs x = cc
digits_begin n (d ∷ ds) rest h = subst (λ bs. begins 61 (bs ++ encodes (ds ++ rest)) ≡ false) (sym (encode_ascii d (digit_small d h.0.0))) (not_assign d h.0.0)

-- a number doesn't begin with `=`
pub decimal_begins : (n : ℕ) (rest : List ℕ) → n < 2 ^ 63 → begins 61 (encodes (decimal n ++ rest)) ≡ false
decimal_begins n rest h = digits_begin n (decimal n) rest (decimal_is n h)
