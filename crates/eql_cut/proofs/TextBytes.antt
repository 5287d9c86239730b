-- Reading a text in one piece.
use Rattle.std.proofs.Common.{true, subst, ◌+◌, ◌^◌, ◌≡◌, ℕ, zero, suc, ◌≤◌, ◌<◌, cond, List, [], ◌∷◌, ◌++◌, length, take, drop, get_or, length-append, Option, Some, None, refl, sym, ◌∙◌, ap, arith}
use Rattle.std.proofs.lemmas.Bool.{cond-true, cond-false, false_from_ne_true}
use Rattle.std.proofs.lemmas.List.{get_or-append-add}
use Rattle.std.proofs.lemmas.Str.{encodes-chars, IsUtf8-from_is_utf8, is_utf8-from_IsUtf8}
use Rattle.std.proofs.Math.Utf8.{encodes}
use Rattle.std.specs.Int.{w64}
use Rattle.std.specs.List.{flat_map}
use Rattle.std.specs.Str.{chars, is_utf8, IsUtf8}
use Rattle.eql_cut.specs.Formats.{◌>>=◌, number_text, number_read, byte, times}
use Rattle.eql_cut.specs.Values.{text}

bytes_there : (n : ℕ) (bytes : List ℕ) → n ≤ length bytes → times byte.read n bytes ≡ Some (take n bytes, drop n bytes)
bytes_there zero bytes le = refl
bytes_there (suc n) [] le = absurd (omega arith)
bytes_there (suc n) (b ∷ bytes) le = ap (λ (o : Option (List ℕ × List ℕ)). o >>= λ y. Some (b ∷ y.0, y.1)) (bytes_there n bytes (omega arith))

bytes_missing : (n : ℕ) (bytes : List ℕ) → length bytes < n → times byte.read n bytes ≡ None
bytes_missing zero bytes lt = absurd (omega arith)
bytes_missing (suc n) [] lt = refl
bytes_missing (suc n) (b ∷ bytes) lt = ap (λ (o : Option (List ℕ × List ℕ)). o >>= λ y. Some (b ∷ y.0, y.1)) (bytes_missing n bytes (omega arith))

flat_bytes : (bytes : List ℕ) → flat_map byte.text bytes ≡ bytes
flat_bytes [] = refl
flat_bytes (b ∷ bytes) = ap (λ (l : List ℕ). b ∷ l) (flat_bytes bytes)

module _ (old mid : List ℕ) (n : ℕ) (counted : number_read w64 old ≡ Some (n, mid)) where
  -- what follows the reading of the bytes
  abbrev after : Option (List ℕ × List ℕ) → Option (List ℕ × List ℕ)
  after o = (o >>= λ x. cond (is_utf8 x.0) (Some x) None) >>= λ x. Some (chars x.0, x.1)

  read_is : text.read old ≡ after (times byte.read n mid)
  read_is = ap (λ (o : Option (ℕ × List ℕ)). after (o >>= λ k. times byte.read k.0 k.1)) counted

  pub text_there : n ≤ length mid → IsUtf8 (take n mid) → text.read old ≡ Some (chars (take n mid), drop n mid)
  text_there le utf8 =
      read_is ∙ ap after (bytes_there n mid le)
      ∙ ap (λ (o : Option (List ℕ × List ℕ)). o >>= λ x. Some (chars x.0, x.1)) (cond-true (is_utf8 (take n mid)) (Some (take n mid, drop n mid)) None (is_utf8-from_IsUtf8 (take n mid) utf8))

  pub text_broken : n ≤ length mid → (IsUtf8 (take n mid) → ⊥) → text.read old ≡ None
  text_broken le broken =
      read_is ∙ ap after (bytes_there n mid le)
      ∙ ap (λ (o : Option (List ℕ × List ℕ)). o >>= λ x. Some (chars x.0, x.1)) (cond-false (is_utf8 (take n mid)) (Some (take n mid, drop n mid)) None (false_from_ne_true (is_utf8 (take n mid)) (λ yes. broken (IsUtf8-from_is_utf8 (take n mid) yes))))

  pub text_short : length mid < n → text.read old ≡ None
  text_short lt = read_is ∙ ap after (bytes_missing n mid lt)

pub text_written : (bytes cs : List ℕ) → IsUtf8 bytes → chars bytes ≡ cs → text.text cs ≡ number_text w64 (length bytes) ++ bytes
text_written bytes cs utf8 is =
    let same : encodes cs ≡ bytes = ap encodes (sym is) ∙ encodes-chars bytes utf8 in
    ap (λ (x : List ℕ). number_text w64 (length x) ++ flat_map byte.text x) same ∙ ap (λ (x : List ℕ). number_text w64 (length bytes) ++ x) (flat_bytes bytes)

-- what a string holds has a spelling
pub text_fits : (bytes cs front all : List ℕ) → IsUtf8 bytes → chars bytes ≡ cs → length bytes < 2 ^ 64 → all ≡ front ++ bytes → ((i d : ℕ) → i < length all → get_or all i d < 256) → text.Fits cs
text_fits bytes cs front all utf8 is short parts small =
    let same : encodes cs ≡ bytes = ap encodes (sym is) ∙ encodes-chars bytes utf8 in
    let each : (k d : ℕ) → k < length bytes → get_or bytes k d < 256 = (λ k d lt.
    let there : length front + k < length all = omega (arith, length-append front bytes, ap length parts) in
    subst (λ (n : ℕ). n < 256) (ap (λ (l : List ℕ). get_or l (length front + k) d) parts ∙ get_or-append-add front bytes k d) (small (length front + k) d there)) in
    let here : ((length bytes < 2 ^ 64) × ((k d : ℕ) → k < length bytes → get_or bytes k d < 256)) × (is_utf8 bytes ≡ true) × (chars bytes ≡ cs) = ((short, each), is_utf8-from_IsUtf8 bytes utf8, is) in
    subst (λ (x : List ℕ). (((length x < 2 ^ 64) × ((k d : ℕ) → k < length x → get_or x k d < 256)) × (is_utf8 x ≡ true)) × (chars x ≡ cs)) (sym same) ((here.0, here.1), here.2)
