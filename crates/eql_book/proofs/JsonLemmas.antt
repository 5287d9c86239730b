-- A JSON text that is listed a character after another.
use Rattle.std.proofs.Common.{◌≡◌, ◌≢◌, ℕ, ◌+◌, ◌/◌, ◌%◌, ◌<◌, ◌==◌, Bool, true, false, cond, List, [], ◌∷◌, ◌++◌, refl, ap, sym, ◌∙◌, append_assoc, arith}
use Rattle.std.specs.Prelude.{encode_utf8_all}
use Rattle.std.specs.Str.{IsUtf8, chars}
use Rattle.std.proofs.lemmas.Str.{encodes-append, encodes-chars}
use Rattle.std.proofs.lemmas.List.{append-nil}
use Rattle.std.proofs.lemmas.List.Concat.{flat_map-append}
use Rattle.eql_values.specs.Shown.{is_hidden}
use Rattle.eql_book.specs.Listing.{json_char, json_chars}

one_more : (xs : List ℕ) (c : ℕ) → json_chars xs ++ json_char c ≡ json_chars (xs ++ c ∷ [])
one_more xs c = ap (λ ys. json_chars xs ++ ys) (sym (append-nil (json_char c))) ∙ sym (flat_map-append json_char xs (c ∷ []))

-- a line with these characters went on with one more
pub grown : (start line after xs : List ℕ) (c : ℕ) → line ≡ start ++ encode_utf8_all (json_chars xs) → after ≡ line ++ encode_utf8_all (json_char c)
    → after ≡ start ++ encode_utf8_all (json_chars (xs ++ c ∷ []))
grown start line after xs c was is =
    is ∙ ap (λ ys. ys ++ encode_utf8_all (json_char c)) was
    ∙ append_assoc start (encode_utf8_all (json_chars xs)) (encode_utf8_all (json_char c))
    ∙ ap (λ ys. start ++ ys) (sym (encodes-append (json_chars xs) (json_char c)) ∙ ap encode_utf8_all (one_more xs c))

-- characters that stay, and one more
pub one_stays : (xs : List ℕ) (c : ℕ) → json_chars xs ≡ xs → is_hidden c ≡ false → json_chars (xs ++ c ∷ []) ≡ xs ++ c ∷ []
one_stays xs c were plain = sym (one_more xs c) ∙ ap (λ ys. ys ++ json_char c) were ∙ ap (λ (b : Bool). xs ++ by b) plain
  where
    by : Bool → List ℕ
    by b = cond b (Rattle.eql_book.specs.Listing.json_escape c) (c ∷ [])

-- so a text that stays is put as it is
pub whole_stays : (start bytes : List ℕ) → IsUtf8 bytes → json_chars (chars bytes) ≡ chars bytes → start ++ bytes ≡ start ++ encode_utf8_all (json_chars (chars bytes))
whole_stays start bytes utf8 same = ap (λ ys. start ++ ys) (sym (ap encode_utf8_all same ∙ encodes-chars bytes utf8))
