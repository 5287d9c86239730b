-- What is printed for a string or a name in backticks reads as that token, whatever follows.
use Rattle.std.proofs.Common.{◌≡◌, ℕ, ◌+◌, ◌<◌, ◌≤◌, Bool, true, false, List, [], ◌∷◌, ◌++◌, cond, refl, sym, ap, subst, ◌∙◌, arith, inr, ◌==◌, ◌&&◌, ◌/◌, ◌%◌, ◌*◌, Some}
use Rattle.std.specs.Prelude.{codes, nat_lt}
use Rattle.std.proofs.lemmas.Bool.{false≢true}
use Rattle.std.proofs.lemmas.Bool.Decides.{nat_tests}
use Rattle.std.proofs.lemmas.Str.{encode_ascii, chars-encodes}
use lib.Utf8.{encode, encodes, next, scalar, scalars}
use lib.Dec.{ltb}
use Rattle.eql_values.specs.Shown.{hex_digit, is_hidden, escape_by_number}
use Rattle.eql_lexer.specs.declared.token.Tok.{Tok}
use Rattle.eql_lexer.specs.declared.token.Tok.TheVariants as tok
use Rattle.eql_lexer.specs.Bytes.{is_hex, hex_number}
use Rattle.eql_lexer.specs.Escapes.{escape, unicode}
use Rattle.eql_lexer.specs.Strings.{IsPlain, IsContent, closed, plain, escaped, triple, quoted_name, name_behind, with_byte, is_name}
use Rattle.eql_parser.specs.Printed as p
use Rattle.eql_parser.specs.Printed.{all_escaped, string_shown, name_shown}
use Rattle.eql_parser.proofs.Canonical.{OneLine, IsThere, IsName}
use Rattle.eql_parser.proofs.Spelt.{Spelt}

abbrev AllPlain : List ℕ → Type 0
AllPlain [] = Unit {0}
AllPlain (b ∷ bs) = IsPlain b × AllPlain bs

plain_content : (bs more s rest : List ℕ) → AllPlain bs → IsContent more s rest → IsContent (bs ++ more) (bs ++ s) rest
plain_content [] more s rest h k = k
plain_content (b ∷ bs) more s rest h k = plain h.0 (plain_content bs more s rest h.1 k)

high : (n : ℕ) → 128 ≤ n → IsPlain n
high n h = (λ e. omega (arith, e, h), λ e. omega (arith, e, h), λ e. omega (arith, e, h))

either : (b : Bool) (xs ys : List ℕ) → AllPlain xs → AllPlain ys → AllPlain (cond b xs ys)
either true xs ys h k = h
either false xs ys h k = k

encode_plain : (c : ℕ) → IsPlain c → AllPlain (encode c)
unfolding encode
encode_plain c h =
    either (ltb c 128) _ _ (h, tt)
    (either (ltb c 2048) _ _ (high (192 + c / 64) (omega arith), (high (next c) (omega arith), tt))
    (either (ltb c 65536) _ _ (high (224 + c / 4096) (omega arith), (high (next (c / 64)) (omega arith), (high (next c) (omega arith), tt)))
    (high (240 + c / 262144) (omega arith), (high (next (c / 4096)) (omega arith), (high (next (c / 64)) (omega arith), (high (next c) (omega arith), tt))))))

equal : (b c : ℕ) → (b == c) ≡ true → b ≡ c
equal b c h = grind (arith, nat_tests)

unequal : (b c : ℕ) → (b == c) ≡ false → b ≡ c → ⊥
unequal b c h e = grind (arith, nat_tests)

short_s : (c d l : ℕ) (more s rest : List ℕ) → c ≡ d → escape (l ∷ more) ≡ Some (d, more) → IsContent more s rest → IsContent (92 ∷ l ∷ more) (encode c ++ s) rest
short_s c d l more s rest e h k = escaped refl h (ap (λ x. encode x ++ s) e) k

hex_is : (d : ℕ) → d < 16 → is_hex (hex_digit d) ≡ true
hex_is d h = grind (arith, nat_tests)

hex_small : (d : ℕ) → d < 16 → hex_digit d < 128
hex_small d h = grind (arith, nat_tests)

hex_back : (d : ℕ) → d < 16 → Rattle.eql_lexer.specs.Bytes.hex_digit (hex_digit d) ≡ d
hex_back d h = grind (arith, nat_tests)

hex_two : (c : ℕ) → c < 256 → hex_number 0 (hex_digit (c / 16 % 16) ∷ hex_digit (c % 16) ∷ []) ≡ c
hex_two c h = two (c / 16 % 16) (c % 16) (omega arith) (omega arith) (omega (arith, h))
  where
    two : (a b : ℕ) → a < 16 → b < 16 → a * 16 + b ≡ c → hex_number 0 (hex_digit a ∷ hex_digit b ∷ []) ≡ c
    two a b x y e = omega (arith, hex_back a x, hex_back b y, e)

hex_four : (c : ℕ) → c < 65536 → hex_number 0 (hex_digit (c / 4096) ∷ hex_digit (c / 256 % 16) ∷ hex_digit (c / 16 % 16) ∷ hex_digit (c % 16) ∷ []) ≡ c
hex_four c h = four (c / 4096) (c / 256 % 16) (c / 16 % 16) (c % 16) (omega (arith, h)) (omega arith) (omega arith) (omega arith) (omega (arith, h))
  where
    four : (a b d e : ℕ) → a < 16 → b < 16 → d < 16 → e < 16 → ((a * 16 + b) * 16 + d) * 16 + e ≡ c
        → hex_number 0 (hex_digit a ∷ hex_digit b ∷ hex_digit d ∷ hex_digit e ∷ []) ≡ c
    four a b d e w x y z is = omega (arith, hex_back a w, hex_back b x, hex_back d y, hex_back e z, is)

unicode_two : (a b v : ℕ) (more : List ℕ) → is_hex a ≡ true → is_hex b ≡ true → hex_number 0 (a ∷ b ∷ []) ≡ v → scalar v ≡ true → unicode (123 ∷ a ∷ b ∷ 125 ∷ more) ≡ Some (v, more)
unicode_two a b v more h k e s = rw (h, k, e, s) refl

unicode_four : (a b d e v : ℕ) (more : List ℕ) → is_hex a ≡ true → is_hex b ≡ true → is_hex d ≡ true → is_hex e ≡ true → hex_number 0 (a ∷ b ∷ d ∷ e ∷ []) ≡ v → scalar v ≡ true
    → unicode (123 ∷ a ∷ b ∷ d ∷ e ∷ 125 ∷ more) ≡ Some (v, more)
unicode_four a b d e v more w x y z is s = rw (w, x, y, z, is, s) refl

digit_bytes : (d : ℕ) (more : List ℕ) → d < 16 → encodes (hex_digit d ∷ more) ≡ hex_digit d ∷ encodes more
digit_bytes d more h = ap (λ bs. bs ++ encodes more) (encode_ascii (hex_digit d) (hex_small d h))

hidden_small : (c : ℕ) → is_hidden c ≡ true → c < 65536
hidden_small c h = grind (arith, nat_tests)

-- a character by its number, in two digits or four
code_s : (c : ℕ) (cs s rest : List ℕ) → is_hidden c ≡ true → scalar c ≡ true → IsContent (encodes cs) s rest
    → IsContent (encodes (escape_by_number c ++ cs)) (encode c ++ s) rest
unfolding encode
code_s c cs s rest h u k = by (nat_lt c 256) refl
  where
    by : (b : Bool) → nat_lt c 256 ≡ b
        → IsContent (encodes ((codes "\\u{" ++ (cond b [] (hex_digit (c / 4096) ∷ hex_digit (c / 256 % 16) ∷ []) ++ (hex_digit (c / 16 % 16) ∷ hex_digit (c % 16) ∷ codes "}"))) ++ cs)) (encode c ++ s) rest
    by true small =
        let low : c < 256 = grind (arith, nat_tests) in
        let y : c / 16 % 16 < 16 = omega arith in
        let z : c % 16 < 16 = omega arith in
        subst (λ text. IsContent (92 ∷ 117 ∷ 123 ∷ text) (encode c ++ s) rest)
        (sym (digit_bytes (c / 16 % 16) (hex_digit (c % 16) ∷ 125 ∷ cs) y ∙ ap (λ bs. hex_digit (c / 16 % 16) ∷ bs) (digit_bytes (c % 16) (125 ∷ cs) z)))
        (escaped refl (unicode_two (hex_digit (c / 16 % 16)) (hex_digit (c % 16)) c (encodes cs) (hex_is (c / 16 % 16) y) (hex_is (c % 16) z) (hex_two c low) u) refl k)
    by false large =
        let w : c / 4096 < 16 = let below = hidden_small c h in omega (arith, below) in
        let x : c / 256 % 16 < 16 = omega arith in
        let y : c / 16 % 16 < 16 = omega arith in
        let z : c % 16 < 16 = omega arith in
        subst (λ text. IsContent (92 ∷ 117 ∷ 123 ∷ text) (encode c ++ s) rest)
        (sym (digit_bytes (c / 4096) (hex_digit (c / 256 % 16) ∷ hex_digit (c / 16 % 16) ∷ hex_digit (c % 16) ∷ 125 ∷ cs) w
        ∙ ap (λ bs. hex_digit (c / 4096) ∷ bs) (digit_bytes (c / 256 % 16) (hex_digit (c / 16 % 16) ∷ hex_digit (c % 16) ∷ 125 ∷ cs) x
        ∙ ap (λ bs. hex_digit (c / 256 % 16) ∷ bs) (digit_bytes (c / 16 % 16) (hex_digit (c % 16) ∷ 125 ∷ cs) y
        ∙ ap (λ bs. hex_digit (c / 16 % 16) ∷ bs) (digit_bytes (c % 16) (125 ∷ cs) z)))))
        (escaped refl (unicode_four (hex_digit (c / 4096)) (hex_digit (c / 256 % 16)) (hex_digit (c / 16 % 16)) (hex_digit (c % 16)) c (encodes cs)
        (hex_is (c / 4096) w) (hex_is (c / 256 % 16) x) (hex_is (c / 16 % 16) y) (hex_is (c % 16) z) (hex_four c (hidden_small c h)) u) refl k)

choose : (b : Bool) (xs ys t rest : List ℕ) → (b ≡ true → IsContent (encodes xs) t rest) → (b ≡ false → IsContent (encodes ys) t rest) → IsContent (encodes (cond b xs ys)) t rest
choose true xs ys t rest h k = h refl
choose false xs ys t rest h k = k refl

escaped_s : (c : ℕ) (cs s rest : List ℕ) → scalar c ≡ true → IsContent (encodes cs) s rest → IsContent (encodes (p.char_shown c cs)) (encode c ++ s) rest
unfolding encode
escaped_s c cs s rest u k =
    choose (c == 10) _ _ _ rest (λ e. short_s c 10 110 (encodes cs) s rest (equal c 10 e) refl k) (λ n.
    choose (c == 13) _ _ _ rest (λ e. short_s c 13 114 (encodes cs) s rest (equal c 13 e) refl k) (λ _.
    choose (c == 9) _ _ _ rest (λ e. short_s c 9 116 (encodes cs) s rest (equal c 9 e) refl k) (λ _.
    choose (c == 92) _ _ _ rest (λ e. short_s c 92 92 (encodes cs) s rest (equal c 92 e) refl k) (λ b.
    choose (c == 34) _ _ _ rest (λ e. short_s c 34 34 (encodes cs) s rest (equal c 34 e) refl k) (λ q.
    choose (is_hidden c) _ _ _ rest (λ e. code_s c cs s rest e u k) (λ _.
    plain_content (encode c) (encodes cs) s rest (encode_plain c (unequal c 34 q, unequal c 92 b, unequal c 10 n)) k))))))

both : (a b : Bool) → a && b ≡ true → (a ≡ true) × (b ≡ true)
both true b h = (refl, h)
both false b h = absurd (false≢true h)

content_s : (s rest : List ℕ) → scalars s ≡ true → IsContent (encodes (all_escaped s (34 ∷ rest))) (encodes s) (encodes rest)
unfolding encode
content_s [] rest u = closed refl
content_s (c ∷ cs) rest u =
    let parts = both (scalar c) (scalars cs) u in
    escaped_s c (all_escaped cs (34 ∷ rest)) (encodes cs) (encodes rest) parts.0 (content_s cs rest parts.1)

-- behind a string or a name in backticks
abbrev pub AfterQuote : List ℕ → Type 0
AfterQuote [] = Unit {0}
AfterQuote (c ∷ cs) = (c < 128) × ((c == 34) ≡ false) × ((c == 96) ≡ false)

abbrev QuoteEnds : List ℕ → Type 0
QuoteEnds [] = Unit {0}
QuoteEnds (b ∷ bs) = ((b == 34) ≡ false) × ((b == 96) ≡ false)

quote_ends : (cs : List ℕ) → AfterQuote cs → QuoteEnds (encodes cs)
quote_ends [] h = tt
quote_ends (c ∷ cs) h = subst (λ bs. QuoteEnds (bs ++ encodes cs)) (sym (encode_ascii c h.0)) (h.1, h.2)

no_triple_empty : (bs : List ℕ) → QuoteEnds bs → triple (34 ∷ 34 ∷ bs) ≡ false
no_triple_empty [] h = refl
no_triple_empty (b ∷ bs) h = let e = h.0 in rw e refl

-- a string that holds something begins with another byte
first_other : (bs s rest : List ℕ) (c : ℕ) → IsContent bs (c ∷ s) rest → triple (34 ∷ bs) ≡ false
first_other _ _ _ c (plain {b} {bs} h k) = not_quote b bs h.0
  where
    not_quote : (b : ℕ) (bs : List ℕ) → (b ≡ 34 → ⊥) → triple (34 ∷ b ∷ bs) ≡ false
    not_quote b [] h = refl
    not_quote b (d ∷ ds) h = grind (arith, nat_tests)
first_other _ _ _ c (escaped {b} {c = d} {bs} e h x k) = back b bs e
  where
    back : (b : ℕ) (bs : List ℕ) → b ≡ 92 → triple (34 ∷ b ∷ bs) ≡ false
    back b [] h = refl
    back b (d ∷ ds) h = rw h refl

abbrev Filled : List ℕ → Type 0
Filled bs = (b : ℕ) × (more : List ℕ) × (bs ≡ b ∷ more)

filled : (b : Bool) (xs ys : List ℕ) → Filled xs → Filled ys → Filled (cond b xs ys)
filled true xs ys h k = h
filled false xs ys h k = k

encode_filled : (c : ℕ) → Filled (encode c)
unfolding encode
encode_filled c = filled (ltb c 128) _ _ (_, _, refl) (filled (ltb c 2048) _ _ (_, _, refl) (filled (ltb c 65536) _ _ (_, _, refl) (_, _, refl)))

no_triple : (s rest : List ℕ) → scalars s ≡ true → AfterQuote rest → triple (34 ∷ encodes (all_escaped s (34 ∷ rest))) ≡ false
unfolding encode
no_triple [] rest u e = no_triple_empty (encodes rest) (quote_ends rest e)
no_triple (c ∷ cs) rest u e =
    let first = encode_filled c in
    first_other _ (first.1 ++ encodes cs) _ first.0 (subst (λ bs. IsContent (encodes (all_escaped (c ∷ cs) (34 ∷ rest))) (bs ++ encodes cs) (encodes rest)) first.2 (content_s (c ∷ cs) rest u))

pub quoted_s : (s rest : List ℕ) (us : List Tok) → scalars s ≡ true → AfterQuote rest → Spelt rest us → Spelt (string_shown s rest) (tok.Str s ∷ us)
unfolding encode
quoted_s s rest us u e k = (encodes rest, (refl, inr (no_triple s rest u e, (encodes s, content_s s rest u, sym (chars-encodes s u)))), k)

-- bytes of a name that are neither backticks nor line feeds
abbrev AllNamed : List ℕ → Type 0
AllNamed [] = Unit {0}
AllNamed (b ∷ bs) = (((b == 96) ≡ false) × ((b == 10) ≡ false)) × AllNamed bs

named_bytes : (bs more n rest : List ℕ) → AllNamed bs → quoted_name more ≡ Some (n, rest) → quoted_name (bs ++ more) ≡ Some (bs ++ n, rest)
named_bytes [] more n rest h e = e
named_bytes (b ∷ bs) more n rest h e =
    let x = h.0.0 in
    let y = h.0.1 in
    let more_e = named_bytes bs more n rest h.1 e in
    rw (x, y, more_e) refl

high_named : (n : ℕ) → 128 ≤ n → ((n == 96) ≡ false) × ((n == 10) ≡ false)
high_named n h = (grind (arith, nat_tests), grind (arith, nat_tests))

named : (b : Bool) (xs ys : List ℕ) → AllNamed xs → AllNamed ys → AllNamed (cond b xs ys)
named true xs ys h k = h
named false xs ys h k = k

encode_named : (c : ℕ) → (c == 96) ≡ false → (c == 10) ≡ false → AllNamed (encode c)
unfolding encode
encode_named c h k =
    named (ltb c 128) _ _ ((h, k), tt)
    (named (ltb c 2048) _ _ (high_named (192 + c / 64) (omega arith), (high_named (next c) (omega arith), tt))
    (named (ltb c 65536) _ _ (high_named (224 + c / 4096) (omega arith), (high_named (next (c / 64)) (omega arith), (high_named (next c) (omega arith), tt)))
    (high_named (240 + c / 262144) (omega arith), (high_named (next (c / 4096)) (omega arith), (high_named (next (c / 64)) (omega arith), (high_named (next c) (omega arith), tt))))))

closing : (bs : List ℕ) → QuoteEnds bs → name_behind bs ≡ Some ([], bs)
closing [] h = refl
closing (b ∷ bs) h = let e = h.1 in rw e refl

pick_name : (b : Bool) (xs ys t rest : List ℕ) → (b ≡ true → quoted_name (encodes xs) ≡ Some (t, rest)) → (b ≡ false → quoted_name (encodes ys) ≡ Some (t, rest)) → quoted_name (encodes (cond b xs ys)) ≡ Some (t, rest)
pick_name true xs ys t rest h k = h refl
pick_name false xs ys t rest h k = k refl

not_line : (c : ℕ) → (c ≡ 10 → ⊥) → (c == 10) ≡ false
not_line c h = grind (arith, nat_tests)

doubled_s : (n rest : List ℕ) → OneLine n → AfterQuote rest → quoted_name (encodes (name_shown n (96 ∷ rest))) ≡ Some (encodes n, encodes rest)
unfolding encode
doubled_s [] rest h e = closing (encodes rest) (quote_ends rest e)
doubled_s (c ∷ cs) rest h e =
    let more = doubled_s cs rest h.1 e in
    pick_name (c == 96) _ _ _ _ (λ same. ap (with_byte 96) more ∙ ap (λ d. Some (encode d ++ encodes cs, encodes rest)) (sym (equal c 96 same)))
    (λ other. named_bytes (encode c) _ _ _ (encode_named c other (not_line c h.0)) more)

is_there : (n rest : List ℕ) → IsThere n → is_name (Some (encodes n, rest)) ≡ true
is_there [] rest h = absurd h
is_there (c ∷ cs) rest h =
    let first = encode_filled c in
    subst (λ bs. is_name (Some (bs ++ encodes cs, rest)) ≡ true) (sym first.2) refl

pub back_s : (n rest : List ℕ) (us : List Tok) → IsName n → AfterQuote rest → Spelt rest us → Spelt (96 ∷ name_shown n (96 ∷ rest)) (tok.Back n ∷ us)
unfolding encode
back_s n rest us h e k =
    let found = doubled_s n rest h.1 e in
    (encodes rest, (refl, (encodes n, found, ap is_name found ∙ is_there n (encodes rest) h.2, sym (chars-encodes n h.0))), k)
