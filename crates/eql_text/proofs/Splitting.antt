-- The parts of a text round a separator.
use Rattle.std.proofs.Common.{◌≡◌, ℕ, false, List, [], ◌∷◌, ◌++◌, cond, eqb, eq-eqb, refl, sym, ap, ◌∙◌, take, drop, length, ◌<◌, Option, None, Some, Bor, subst, get_or, arith}
use Rattle.std.specs.Prelude.{encode_utf8}
use Rattle.std.specs.Str.{chars, IsUtf8, NonePass, NoCharPasses}
use Rattle.std.proofs.lemmas.Str.{chars_from_encodes, chars-append, chars_past_char, IsUtf8-take, IsUtf8-drop, IsCharBoundary-before_ascii, len_utf8_ascii}
use Rattle.std.proofs.lemmas.List.{take-append-drop, length-drop}
use Rattle.std.proofs.lemmas.Str.Pattern.{IsSplitOnceResult}
use Rattle.std.specs.Option.{MatchOption, is_some}
use Rattle.eql_text.specs.Addresses.{parts, into_first}

parts_whole : (d : ℕ) (s : List ℕ) → NonePass (λ c. eqb c d) s → parts d s ≡ s ∷ []
parts_whole d [] h = refl
parts_whole d (c ∷ s) h =
    ap (λ b. cond b ([] ∷ parts d s) (into_first c (parts d s))) h.0 ∙ ap (into_first c) (parts_whole d s h.1)

parts_first : (d : ℕ) (s r : List ℕ) → NonePass (λ c. eqb c d) s → parts d (s ++ (d ∷ r)) ≡ s ∷ parts d r
parts_first d [] r h = ap (λ b. cond b ([] ∷ parts d r) (into_first d (parts d r))) (eq-eqb d d refl)
parts_first d (c ∷ s) r h =
    ap (λ b. cond b ([] ∷ parts d (s ++ (d ∷ r))) (into_first c (parts d (s ++ (d ∷ r))))) h.0
    ∙ ap (into_first c) (parts_first d s r h.1)

-- a text without the separator has one part
pub parts_none : (d : ℕ) (bs : List ℕ) → IsUtf8 bs → NoCharPasses (λ c. eqb c d) bs → parts d (chars bs) ≡ chars bs ∷ []
parts_none d bs u h = rw (sym (chars_from_encodes h.0 bs u h.1)) (parts_whole d h.0 h.2)

-- one that has the separator behind a part without it
pub parts_some : (d : ℕ) (bs xs ys : List ℕ) → IsUtf8 bs → IsUtf8 xs → NoCharPasses (λ c. eqb c d) xs → bs ≡ xs ++ (encode_utf8 d ++ ys) → IsUtf8 (encode_utf8 d ++ ys) → parts d (chars bs) ≡ chars xs ∷ parts d (chars ys)
parts_some d bs xs ys u front h e back =
    let all : chars bs ≡ chars xs ++ (d ∷ chars ys) =
    ap chars e ∙ chars-append xs (encode_utf8 d ++ ys) front ∙ ap (λ cs. chars xs ++ cs) (chars_past_char (encode_utf8 d ++ ys) ys d back refl) in
    let own : h.0 ≡ chars xs = chars_from_encodes h.0 xs front h.1 in
    ap (parts d) all ∙ ap (λ cs. parts d (cs ++ (d ∷ chars ys))) (sym own) ∙ parts_first d h.0 (chars ys) h.2 ∙ ap (λ cs. cs ∷ parts d (chars ys)) own

-- what `split_once` at an ASCII separator says of the parts
abbrev pub Cuts : ℕ → List ℕ → Option (Bor (List ℕ) × Bor (List ℕ)) → Type 0
Cuts d bs r = MatchOption r (parts d (chars bs) ≡ chars bs ∷ []) (λ p. parts d (chars bs) ≡ chars p.0.now ∷ parts d (chars p.1.now))

pub cuts : (d : ℕ) (bs : List ℕ) (r : Option (Bor (List ℕ) × Bor (List ℕ))) → d < 128 → IsUtf8 bs → IsSplitOnceResult d bs r → Cuts d bs r
cuts d bs None small u h = parts_none d bs u h
cuts d bs (Some x) small u (i, j, (without, at), front, back, le, front_length, back_length) =
    let inside : i < length bs = omega (arith, at.ends, len_utf8_ascii d small) in
    let low : get_or bs i 0 < 128 = omega (arith, at.byte small) in
    let edge = IsCharBoundary-before_ascii bs i inside low in
    let whole : bs ≡ take i bs ++ (encode_utf8 d ++ drop j bs) = sym (take-append-drop i bs) ∙ ap (λ r. take i bs ++ r) at.split in
    parts_some d bs (take i bs) (drop j bs) u (IsUtf8-take bs i u edge) without whole (subst IsUtf8 at.split (IsUtf8-drop bs i u edge))
    ∙ ap (λ r. chars r ∷ parts d (chars (drop j bs))) (sym front) ∙ ap (λ r. chars x.0.now ∷ parts d (chars r)) (sym back)

-- what it says of the characters themselves
abbrev pub Cut : ℕ → List ℕ → Option (Bor (List ℕ) × Bor (List ℕ)) → Type 0
Cut d bs r =
    MatchOption r (NonePass (λ c. eqb c d) (chars bs))
    (λ p. NonePass (λ c. eqb c d) (chars p.0.now) × (chars bs ≡ chars p.0.now ++ (d ∷ chars p.1.now)) × (length p.1.now < length bs))

none_pass : (d : ℕ) (bs : List ℕ) → IsUtf8 bs → NoCharPasses (λ c. eqb c d) bs → NonePass (λ c. eqb c d) (chars bs)
none_pass d bs u h = subst (NonePass (λ c. eqb c d)) (chars_from_encodes h.0 bs u h.1) h.2

pub cut_is : (d : ℕ) (bs : List ℕ) (r : Option (Bor (List ℕ) × Bor (List ℕ))) → d < 128 → IsUtf8 bs → IsSplitOnceResult d bs r → Cut d bs r
cut_is d bs None small u h = none_pass d bs u h
cut_is d bs (Some x) small u (i, j, (without, at), front, back, le, front_length, back_length) =
    let inside : i < length bs = omega (arith, at.ends, len_utf8_ascii d small) in
    let low : get_or bs i 0 < 128 = omega (arith, at.byte small) in
    let edge = IsCharBoundary-before_ascii bs i inside low in
    let whole : bs ≡ take i bs ++ (encode_utf8 d ++ drop j bs) = sym (take-append-drop i bs) ∙ ap (λ r. take i bs ++ r) at.split in
    let rest : IsUtf8 (encode_utf8 d ++ drop j bs) = subst IsUtf8 at.split (IsUtf8-drop bs i u edge) in
    let first : IsUtf8 (take i bs) = IsUtf8-take bs i u edge in
    let all : chars bs ≡ chars (take i bs) ++ (d ∷ chars (drop j bs)) =
    ap chars whole ∙ chars-append (take i bs) (encode_utf8 d ++ drop j bs) first
    ∙ ap (λ cs. chars (take i bs) ++ cs) (chars_past_char (encode_utf8 d ++ drop j bs) (drop j bs) d rest refl) in (
      subst (λ xs. NonePass (λ c. eqb c d) (chars xs)) (sym front) (none_pass d (take i bs) first without),
      all ∙ ap (λ xs. chars xs ++ (d ∷ chars (drop j bs))) (sym front) ∙ ap (λ ys. chars x.0.now ++ (d ∷ chars ys)) (sym back),
      omega (arith, at.ends, len_utf8_ascii d small, ap length back, length-drop j bs),
    )

pub not_cut : (d : ℕ) (bs : List ℕ) (r : Option (Bor (List ℕ) × Bor (List ℕ))) → Cut d bs r → is_some r ≡ false → NonePass (λ c. eqb c d) (chars bs)
not_cut d bs None h e = h
not_cut d bs (Some x) h e = cc
