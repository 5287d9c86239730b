-- A text that is printed a character after another.
use Rattle.std.proofs.Common.{◌≡◌, ℕ, List, [], ◌∷◌, ◌++◌, map, refl, ap, sym, ◌∙◌, append_assoc}
use Rattle.std.specs.Prelude.{encode_utf8_all}
use Rattle.std.proofs.lemmas.Str.{encodes-append}
use Rattle.std.proofs.lemmas.List.{append-nil}
use Rattle.std.proofs.lemmas.List.Concat.{flat_map-append}
use Rattle.eql_values.specs.Shown.{shown_char, shown_text}

one_more : (xs : List ℕ) (c : ℕ) → encode_utf8_all (shown_text xs) ++ encode_utf8_all (shown_char c) ≡ encode_utf8_all (shown_text (xs ++ c ∷ []))
one_more xs c =
    sym (encodes-append (shown_text xs) (shown_char c))
    ∙ ap encode_utf8_all (ap (λ ys. shown_text xs ++ ys) (sym (append-nil (shown_char c))) ∙ sym (flat_map-append shown_char xs (c ∷ [])))

-- a line with these characters went on with one more
pub grown : (start line after xs : List ℕ) (c : ℕ) → line ≡ start ++ encode_utf8_all (shown_text xs) → after ≡ line ++ encode_utf8_all (shown_char c)
    → after ≡ start ++ encode_utf8_all (shown_text (xs ++ c ∷ []))
grown start line after xs c was is =
    is ∙ ap (λ ys. ys ++ encode_utf8_all (shown_char c)) was
    ∙ append_assoc start (encode_utf8_all (shown_text xs)) (encode_utf8_all (shown_char c))
    ∙ ap (λ ys. start ++ ys) (one_more xs c)

-- the characters that were all yielded
pub all_of : (xs all : List ℕ) → map (λ x. x) xs ≡ all → xs ≡ all
all_of xs all e = sym (each xs) ∙ e
  where
    each : (ys : List ℕ) → map (λ x. x) ys ≡ ys
    each [] = refl
    each (y ∷ ys) = ap (λ zs. y ∷ zs) (each ys)
