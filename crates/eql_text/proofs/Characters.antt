-- The characters of a text of which one stands first, or last.
use Rattle.std.proofs.Common.{◌≡◌, ℕ, List, [], ◌∷◌, ◌++◌, ◌+◌, ◌-◌, ◌≤◌, length, take, drop, sym, ap, ◌∙◌, subst, arith, refl, eqb}
use Rattle.std.specs.Str.{chars, IsUtf8}
use Rattle.std.specs.Prelude.{encode_utf8, encode_utf8_all}
use Rattle.std.proofs.lemmas.Str.{chars_past_char, chars-append, chars-nil, encodes-chars, length-le-encodes, IsUtf8-drop, IsCharBoundary-from_take}
use Rattle.std.proofs.lemmas.List.{append-nil, length-append, length-drop, drop-drop, take-append-drop}
use Rattle.std.proofs.Math.Dec.{eqb-suc-zero}
use Rattle.std.proofs.Math.Seq.{drop-append_seam, take-append_seam}
use Rattle.eql_text.specs.Comparing.{is_empty}
use Rattle.eql_text.specs.Repeats.{IsEnding}

-- no bytes, no characters
pub chars_empty : (bs : List ℕ) → length bs ≡ 0 → chars bs ≡ []
chars_empty [] e = chars-nil
chars_empty (b ∷ bs) e = absurd (omega arith)

pub chars_last : (bs xs : List ℕ) (c : ℕ) → IsUtf8 bs → IsUtf8 xs → bs ≡ xs ++ encode_utf8 c → chars bs ≡ chars xs ++ (c ∷ [])
chars_last bs xs c whole front e =
    let cut : take (length xs) bs ≡ xs = ap (take (length xs)) e ∙ take-append_seam xs (encode_utf8 c) in
    let rest : drop (length xs) bs ≡ encode_utf8 c = ap (drop (length xs)) e ∙ drop-append_seam xs (encode_utf8 c) in
    let fits : length xs ≤ length bs = omega (arith, ap length e, length-append xs (encode_utf8 c)) in
    let edge = IsCharBoundary-from_take bs (length xs) whole fits (subst IsUtf8 (sym cut) front) in
    let back : IsUtf8 (encode_utf8 c) = subst IsUtf8 rest (IsUtf8-drop bs (length xs) whole edge) in
    let one : chars (encode_utf8 c) ≡ c ∷ [] = chars_past_char (encode_utf8 c) [] c back (sym (append-nil (encode_utf8 c))) ∙ ap (λ cs. c ∷ cs) chars-nil in
    ap chars e ∙ chars-append xs (encode_utf8 c) front ∙ ap (λ cs. chars xs ++ cs) one

-- a text has no bytes exactly when it has no characters
pub is_empty_chars : (bs : List ℕ) → IsUtf8 bs → eqb (length bs) 0 ≡ is_empty (chars bs)
is_empty_chars [] u = rw chars-nil refl
is_empty_chars (b ∷ bs) u = filled (chars (b ∷ bs)) (encodes-chars (b ∷ bs) u)
  where
    filled : (cs : List ℕ) → encode_utf8_all cs ≡ b ∷ bs → eqb (length (b ∷ bs)) 0 ≡ is_empty cs
    filled [] e = cc
    filled (c ∷ cs) e = eqb-suc-zero (length bs)

-- what follows one character of a text is an ending of it
pub ending_past : (bs rest : List ℕ) (c : ℕ) → bs ≡ encode_utf8 c ++ rest → IsEnding bs rest
ending_past bs rest c e =
    let sizes : length bs ≡ length (encode_utf8 c) + length rest = ap length e ∙ length-append (encode_utf8 c) rest in
    let at : length (encode_utf8 c) ≡ length bs - length rest = omega arith in
    record {
      within = omega arith;
      is = sym (drop-append_seam (encode_utf8 c) rest) ∙ ap (drop (length (encode_utf8 c))) (sym e) ∙ ap (λ n. drop n bs) at;
    }

-- an ending of an ending
pub ending_of : (bs xs ys : List ℕ) → IsEnding bs xs → IsEnding xs ys → IsEnding bs ys
ending_of bs xs ys e f =
    let lengths : length bs - length xs + (length xs - length ys) ≡ length bs - length ys = omega (arith, e.within, f.within) in
    record {
      within = omega (arith, e.within, f.within);
      is = f.is ∙ ap (drop (length xs - length ys)) e.is ∙ drop-drop (length xs - length ys) (length bs - length xs) bs ∙ ap (λ n. drop n bs) lengths;
    }

pub ending_whole : (bs : List ℕ) → IsEnding bs bs
ending_whole bs = record {
  within = omega arith;
  is = let e : length bs - length bs ≡ 0 = omega arith in ap (λ n. drop n bs) (sym e);
}

-- bytes before others are a front
pub front_before : (bs xs ys : List ℕ) → bs ≡ xs ++ ys → xs ≡ take (length xs) bs
front_before bs xs ys e = sym (ap (take (length xs)) e ∙ take-append_seam xs ys)

pub ending_at : (bs xs : List ℕ) (n : ℕ) → n ≤ length bs → xs ≡ drop n bs → IsEnding bs xs
ending_at bs xs n h e =
    let size : length xs ≡ length bs - n = ap length e ∙ length-drop n bs in
    let at : n ≡ length bs - length xs = omega arith in
    record { within = omega arith; is = e ∙ ap (λ k. drop k bs) at }

-- a front and what follows it
pub chars_cut : (bs xs ys : List ℕ) → IsUtf8 xs → xs ≡ take (length xs) bs → ys ≡ drop (length xs) bs → chars bs ≡ chars xs ++ chars ys
chars_cut bs xs ys u e f =
    ap chars (sym (take-append-drop (length xs) bs)) ∙ ap (λ k. chars (k ++ drop (length xs) bs)) (sym e) ∙ chars-append xs (drop (length xs) bs) u
    ∙ ap (λ k. chars xs ++ chars k) (sym f)

pub chars_behind : (bs xs ys : List ℕ) (n : ℕ) → IsUtf8 xs → xs ≡ take (length xs) bs → ys ≡ drop (length xs) bs → length (chars xs) ≡ n → chars ys ≡ drop n (chars bs)
chars_behind bs xs ys n u e f h =
    sym (drop-append_seam (chars xs) (chars ys)) ∙ ap (drop (length (chars xs))) (sym (chars_cut bs xs ys u e f)) ∙ ap (λ k. drop k (chars bs)) h

pub fewer_chars : (bs : List ℕ) → IsUtf8 bs → length (chars bs) ≤ length bs
fewer_chars bs u = omega (arith, length-le-encodes (chars bs), ap length (encodes-chars bs u))
