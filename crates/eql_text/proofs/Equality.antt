-- Equal texts.
use Rattle.std.proofs.Common.{◌≡◌, ℕ, Bool, true, false, List, [], ◌∷◌, ◌&&◌, drop, length, refl, sym, ap, ◌∙◌, eqb, Decides}
use Rattle.std.specs.Prelude.{encode_utf8_all}
use Rattle.std.specs.Str.{bytes_eq}
use Rattle.std.proofs.lemmas.Slice.Eq.{bytes_eq-Decides}
use Rattle.std.proofs.lemmas.Map.Text.{is_eq-slice_cmp}
use Rattle.std.proofs.lemmas.Str.{encodes_same}
use Rattle.std.proofs.lemmas.Bool.Decides.{same_from_decides}
use Rattle.eql_values.specs.Orders.{text_eq}
use Rattle.eql_text.specs.Folding.{same}
use Rattle.eql_text.specs.Comparing.{equal, starts}
use Rattle.eql_text.specs.Comparing.{is_empty}

-- equal is to begin with the other and have nothing left
pub equal_starts : (fold : Bool) (s t : List ℕ) → equal fold s t ≡ starts fold s t && is_empty (drop (length t) s)
equal_starts fold [] [] = refl
equal_starts fold [] (d ∷ t) = refl
equal_starts fold (c ∷ s) [] = refl
equal_starts fold (c ∷ s) (d ∷ t) = elim (same fold c d) as (λ b. b && equal fold s t ≡ (b && starts fold s t) && is_empty (drop (length t) s)) [
  | true ↦ equal_starts fold s t
  | false ↦ refl
]

-- an exact comparison of characters is one of bytes
exact : (s t : List ℕ) → equal false s t ≡ bytes_eq s t
unfolding same
exact [] [] = refl
exact [] (d ∷ t) = refl
exact (c ∷ s) [] = refl
exact (c ∷ s) (d ∷ t) = ap (λ b. eqb c d && b) (exact s t)

bytes : (s t : List ℕ) → bytes_eq (encode_utf8_all s) (encode_utf8_all t) ≡ bytes_eq s t
bytes s t = same_from_decides _ (bytes_eq s t) (as_characters (bytes_eq-Decides (encode_utf8_all s) (encode_utf8_all t))) (bytes_eq-Decides s t)
  where
    as_characters : {b : Bool} → Decides b (encode_utf8_all s ≡ encode_utf8_all t) → Decides b (s ≡ t)
    as_characters d = (λ e. encodes_same s t (d.0 e), λ e. d.1 (ap encode_utf8_all e))

pub text_eq_equal : (s t : List ℕ) → text_eq s t ≡ equal false s t
text_eq_equal s t = is_eq-slice_cmp (encode_utf8_all s) (encode_utf8_all t) ∙ bytes s t ∙ sym (exact s t)
