-- The characters of a string that grows, and parts written one after another.
use Rattle.std.proofs.Common.{◌≡◌, ℕ, ◌/◌, ◌%◌, zero, suc, ◌<◌, ℤ, pos, negsuc, Bool, true, false, ◌&&◌, List, [], ◌∷◌, ◌++◌, ap, sym, ◌∙◌, append_assoc, arith, refl}
use Rattle.std.specs.String.{string_bytes}
use Rattle.std.specs.Str.{chars, IsUtf8, IsAscii}
use Rattle.std.specs.Prelude.{String, encode_utf8, Result, Ok, Err, OnOk, nat_lt, ◌==◌, if◌then◌else◌, codes}
use Rattle.std.proofs.lemmas.Str.{chars-append, chars-nil, chars_past_char, chars-IsAscii, IsUtf8-string_bytes}
use Rattle.std.proofs.lemmas.List.{append-nil}
use Rattle.std.proofs.lemmas.Bool.{false≢true}
use Rattle.std.proofs.lemmas.Bool.Decides.{nat_tests}
use Rattle.std.specs.Fmt.{digits, digits_onto, digit_glyph, signed_decimal}
use Rattle.eql_values.specs.Shown.{hex_digit, upper_digits, escape_by_number}
use Rattle.eql_parser.specs.Adding.{Adds, all_ascii}
use Rattle.eql_parser.specs.Printed.{is_one}

-- a string with these characters after it has gone on with some bytes
pub page_grows : {Z : Type 0} (old : String Z) (page new more cs : List ℕ) → chars (string_bytes old) ≡ page → new ≡ string_bytes old ++ more → chars more ≡ cs
    → (rest : List ℕ) → chars new ++ rest ≡ page ++ (cs ++ rest)
page_grows old page new more cs was e m rest =
    let grown : chars new ≡ page ++ cs = ap chars e ∙ chars-append (string_bytes old) more (IsUtf8-string_bytes old) ∙ ap (λ text. text ++ chars more) was ∙ ap (λ text. page ++ text) m in
    ap (λ text. text ++ rest) grown ∙ append_assoc page cs rest

pub one_char : (c : ℕ) → IsUtf8 (encode_utf8 c) → chars (encode_utf8 c) ≡ c ∷ []
one_char c u = chars_past_char (encode_utf8 c) [] c u (sym (append-nil (encode_utf8 c))) ∙ ap (λ cs. c ∷ cs) chars-nil

both : (a b : Bool) → a && b ≡ true → (a ≡ true) × (b ≡ true)
both true b h = (refl, h)
both false b h = absurd (false≢true h)

below : (c : ℕ) → nat_lt c 128 ≡ true → c < 128
below c h = grind (arith, nat_tests)

pub each_ascii : (cs : List ℕ) → all_ascii cs ≡ true → IsAscii cs
each_ascii [] h i = omega arith
each_ascii (c ∷ cs) h zero = below c (both (nat_lt c 128) (all_ascii cs) h).0
each_ascii (c ∷ cs) h (suc i) = each_ascii cs (both (nat_lt c 128) (all_ascii cs) h).1 i

-- ASCII bytes are their own characters
pub ascii_chars : (cs : List ℕ) → all_ascii cs ≡ true → chars cs ≡ cs
ascii_chars cs h = chars-IsAscii cs (each_ascii cs h)

pub not_one : (n : ℤ) → (n ≡ pos 1 → ⊥) → is_one n ≡ false
not_one (pos zero) h = refl
not_one (pos (suc zero)) h = absurd (h refl)
not_one (pos (suc (suc n))) h = refl
not_one (negsuc n) h = refl

-- a character of a name in backticks
pub twice : (c : ℕ) (rest : List ℕ) → c ≡ 96 → 96 ∷ 96 ∷ rest ≡ (if c == 96 then 96 ∷ 96 ∷ rest else c ∷ rest)
twice c rest e = grind (arith, nat_tests)

pub once : (c : ℕ) (rest : List ℕ) → (c ≡ 96 → ⊥) → c ∷ rest ≡ (if c == 96 then 96 ∷ 96 ∷ rest else c ∷ rest)
once c rest e = grind (arith, nat_tests)

-- digits are ASCII
ascii_glyph : (n : ℕ) → nat_lt (digit_glyph false (n % 10)) 128 ≡ true
ascii_glyph n = small (n % 10) (omega arith)
  where
    small : (d : ℕ) → d < 10 → nat_lt (digit_glyph false d) 128 ≡ true
    small d h = grind (arith, nat_tests)

either : (b : Bool) (xs ys : List ℕ) → all_ascii xs ≡ true → all_ascii ys ≡ true → all_ascii (if b then xs else ys) ≡ true
either true xs ys h k = h
either false xs ys h k = k

one_more : (c : ℕ) (cs : List ℕ) → nat_lt c 128 ≡ true → all_ascii cs ≡ true → all_ascii (c ∷ cs) ≡ true
one_more c cs h k = rw h k

ascii_digits : (k n : ℕ) (acc : List ℕ) → all_ascii acc ≡ true → all_ascii (digits_onto k 10 false n acc) ≡ true
ascii_digits zero n acc h = h
ascii_digits (suc k) n acc h =
    let more = one_more (digit_glyph false (n % 10)) acc (ascii_glyph n) h in
    either (n / 10 == 0) (digit_glyph false (n % 10) ∷ acc) (digits_onto k 10 false (n / 10) (digit_glyph false (n % 10) ∷ acc)) more (ascii_digits k (n / 10) (digit_glyph false (n % 10) ∷ acc) more)

ascii_decimal : (n : ℕ) → all_ascii (digits 10 false n) ≡ true
unfolding digits
ascii_decimal n = ascii_digits 64 n [] refl

pub ascii_number : (n : ℤ) → all_ascii (signed_decimal n) ≡ true
ascii_number (pos n) = ascii_decimal n
ascii_number (negsuc n) = ascii_decimal (suc n)

-- the escape of a character was written part by part
pub escape_on : (page : List ℕ) (c : ℕ) (rest : List ℕ) → page ++ (codes "\\u{" ++ (upper_digits c ++ (hex_digit (c / 16 % 16) ∷ hex_digit (c % 16) ∷ (codes "}" ++ rest)))) ≡ page ++ (escape_by_number c ++ rest)
escape_on page c rest =
    let lower : List ℕ = hex_digit (c / 16 % 16) ∷ hex_digit (c % 16) ∷ codes "}" in
    ap (λ text. page ++ text) (sym (append_assoc (codes "\\u{") (upper_digits c ++ lower) rest ∙ ap (λ text. codes "\\u{" ++ text) (append_assoc (upper_digits c) lower rest)))

-- a last part was written
pub adds_ok : {A E : Type 0} (r : Result A E) (page middle after : List ℕ) (f g : List ℕ → List ℕ) → OnOk r (Adds middle after f) → ((rest : List ℕ) → middle ++ f rest ≡ page ++ g rest)
    → OnOk r (Adds page after g)
adds_ok (Ok x) page middle after f g put before = λ rest. put rest ∙ before rest
adds_ok (Err e) page middle after f g put before = put
