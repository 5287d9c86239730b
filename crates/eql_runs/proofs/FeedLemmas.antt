-- The line of a match has no line feed before its end.
use Rattle.std.proofs.Common.{◌≡◌, ◌≢◌, ℕ, zero, suc, ◌+◌, ◌≤◌, ◌/◌, ◌%◌, ◌==◌, Bool, true, false, cond, List, [], ◌∷◌, ◌++◌, refl, sym, ap, subst, ◌∙◌, arith, codes}
use Rattle.std.specs.Prelude.{not, nat_lt, flat_map}
use Rattle.std.specs.Fmt.{decimal, digits, digits_onto, digit_glyph}
use Rattle.std.specs.Str.{chars}
use Rattle.std.proofs.lemmas.Bool.{false≢true}
use Rattle.std.proofs.lemmas.Bool.Decides.{nat_tests}
use Rattle.std.proofs.lemmas.Str.{encodes-append}
use Rattle.std.proofs.lemmas.List.Concat.{flat_map-cons}
use Rattle.std.proofs.lemmas.List.Folds.{list_all-append}
use lib.Utf8.{encode, encodes, next}
use lib.Dec.{ltb}
use Rattle.eql_values.specs.Shown.{hex_digit, is_hidden}
use Rattle.eql_values.specs.declared.value.Value.{Value}
use Rattle.eql_values.specs.declared.found.Numbered.{Numbered}
use Rattle.eql_values.specs.declared.order.OrderKey.{OrderKey}
use Rattle.eql_laws.proofs.Facts.{true_both}
use Rattle.eql_lane.specs.Buffers.{IsOneLine}
use Rattle.eql_book.specs.Listing.{json_escape, json_char, json_chars, key_json, key_text, event_text, match_text}

both : (a b : List ℕ) → IsOneLine a → IsOneLine b → IsOneLine (a ++ b)
both a b p q = list_all-append (λ (byte : ℕ). not (byte == 10)) a b ∙ true_both _ _ p q

choose : (c : Bool) (a b : List ℕ) → IsOneLine a → IsOneLine b → IsOneLine (cond c a b)
choose true a b p q = p
choose false a b p q = q

all_flat : {X : Type 0} (f : X → List ℕ) (xs : List X) → ((x : X) → IsOneLine (f x)) → IsOneLine (flat_map f xs)
all_flat f [] each = refl
all_flat f (x ∷ xs) each = subst IsOneLine (sym (flat_map-cons f x xs)) (both (f x) (flat_map f xs) (each x) (all_flat f xs each))

other : (byte : ℕ) → byte ≢ 10 → not (byte == 10) ≡ true
other byte h = grind (arith, nat_tests, h)

before : (byte : ℕ) (rest : List ℕ) → byte ≢ 10 → IsOneLine rest → IsOneLine (byte ∷ rest)
before byte rest h one = true_both _ _ (other byte h) one

-- digits
digit : (c : Bool) (low high d : ℕ) → cond c (48 + d) (87 + d) ≢ 10
digit true low high d e = omega (arith, e)
digit false low high d e = omega (arith, e)

onto : (k n : ℕ) (more : List ℕ) → IsOneLine more → IsOneLine (digits_onto k 10 false n more)
onto zero n more one = one
onto (suc k) n more one =
    let begun : IsOneLine (digit_glyph false (n % 10) ∷ more) = before (digit_glyph false (n % 10)) more (digit (nat_lt (n % 10) 10) 0 0 (n % 10)) one in
    choose (n / 10 == 0) (digit_glyph false (n % 10) ∷ more) (digits_onto k 10 false (n / 10) (digit_glyph false (n % 10) ∷ more)) begun
    (onto k (n / 10) (digit_glyph false (n % 10) ∷ more) begun)

number : (n : ℕ) → IsOneLine (decimal n)
unfolding digits
number n = onto 64 n [] refl

-- the bytes of a character
high : (byte : ℕ) (rest : List ℕ) → 128 ≤ byte → IsOneLine rest → IsOneLine (byte ∷ rest)
high byte rest h one = before byte rest (λ e. omega (arith, e, h)) one

bytes : (c : ℕ) → c ≢ 10 → IsOneLine (encode c)
unfolding encode
bytes c h =
    choose (ltb c 128) _ _ (before c [] h refl)
    (choose (ltb c 2048) _ _ (high (192 + c / 64) (next c ∷ []) (omega arith) last)
    (choose (ltb c 65536) _ _ (high (224 + c / 4096) (next (c / 64) ∷ next c ∷ []) (omega arith) last_two)
    (high (240 + c / 262144) (next (c / 4096) ∷ next (c / 64) ∷ next c ∷ []) (omega arith) (high (next (c / 4096)) (next (c / 64) ∷ next c ∷ []) (omega arith) last_two))))
  where
    last : IsOneLine (next c ∷ [])
    last = high (next c) [] (omega arith) refl

    last_two : IsOneLine (next (c / 64) ∷ next c ∷ [])
    last_two = high (next (c / 64)) (next c ∷ []) (omega arith) last

-- characters of which none is a line feed
abbrev NoFeed : List ℕ → Type 0
NoFeed [] = Unit {0}
NoFeed (c ∷ cs) = (c ≢ 10) × NoFeed cs

spelt : (cs : List ℕ) → NoFeed cs → IsOneLine (encodes cs)
spelt [] h = refl
spelt (c ∷ cs) h = both (encode c) (encodes cs) (bytes c h.0) (spelt cs h.1)

above : (c : ℕ) → 11 ≤ c → c ≢ 10
above c h e = omega (arith, e, h)

-- a character of a key as it is listed
hex : (d : ℕ) → hex_digit d ≢ 10
hex d = digit (nat_lt d 10) 0 0 d

escaped : (c : ℕ) → IsOneLine (encodes (json_escape c))
unfolding encode
escaped c = spelt (json_escape c) (above 92 (omega arith), (above 117 (omega arith), (hex (c / 4096), (hex (c / 256 % 16), (hex (c / 16 % 16), (hex (c % 16), tt))))))

listed : (c : ℕ) → IsOneLine (encodes (json_char c))
listed c = by (is_hidden c) refl
  where
    by : (b : Bool) → is_hidden c ≡ b → IsOneLine (encodes (cond b (json_escape c) (c ∷ [])))
    by true is = escaped c
    by false is = spelt (c ∷ []) ((λ e. false≢true (sym is ∙ ap is_hidden e)), tt)

all_listed : (cs : List ℕ) → IsOneLine (encodes (json_chars cs))
all_listed [] = refl
all_listed (c ∷ cs) =
    subst IsOneLine (sym (ap encodes (flat_map-cons json_char c cs) ∙ encodes-append (json_char c) (json_chars cs)))
    (both (encodes (json_char c)) (encodes (json_chars cs)) (listed c) (all_listed cs))

-- a key
one_key : (key : List Value) → IsOneLine (key_text key)
one_key key = all_listed (chars (key_json key))

-- events, and a match
place : (places : Bool) (at : ℕ) → IsOneLine (cond places (codes "@" ++ decimal at) [])
unfolding lib.Utf8.encode
place true at = number at
place false at = refl

one_event : (places : Bool) (event : OrderKey) → IsOneLine (event_text places event)
unfolding lib.Utf8.encode
one_event places event =
    both (codes " " ++ decimal event.shard ++ codes ":" ++ decimal event.line) (cond places (codes "@" ++ decimal event.at) [])
    (both (codes " " ++ decimal event.shard ++ codes ":") (decimal event.line)
    (both (codes " " ++ decimal event.shard) (codes ":") (number event.shard) refl) (number event.line))
    (place places event.at)

pub one_match : (places : Bool) (n : Numbered) → IsOneLine (match_text places n)
unfolding lib.Utf8.encode
one_match places n =
    both (decimal n.number ++ codes " " ++ key_text n.found.key) (flat_map (event_text places) n.found.chain)
    (both (decimal n.number ++ codes " ") (key_text n.found.key) (both (decimal n.number) (codes " ") (number n.number) refl) (one_key n.found.key))
    (all_flat (event_text places) n.found.chain (one_event places))
