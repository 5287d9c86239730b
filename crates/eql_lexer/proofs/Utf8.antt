-- UTF-8 may be cut at its ASCII bytes.
use Rattle.std.proofs.Common.{◌≡◌, ℕ, ◌+◌, ◌<◌, List, [], ◌∷◌, ◌++◌, length, drop, take, Bool, true, false, cond, Option, None, Some, inl, inr, ◌⊎◌, refl, sym, ap, subst, ◌∙◌, arith, ◌==◌, get_or, length-append}
use Rattle.std.proofs.Math.Seq.{take-append_seam, drop-append-add, get_or-append_seam}
use Rattle.std.proofs.lemmas.List.{take-append-drop}
use Rattle.std.proofs.lemmas.Str.{IsUtf8-take, IsUtf8-drop, IsCharBoundary-before_ascii, IsCharBoundary-after_ascii}
use Rattle.std.specs.List.{prefix_len}
use Rattle.std.specs.Char.{IsScalar}
use Rattle.std.specs.Str.{IsUtf8}
use Rattle.eql_lexer.specs.Bytes.{is_hex}
use Rattle.eql_lexer.specs.Escapes.{escape, unicode}
use Rattle.eql_lexer.specs.Strings.{triple}
use Rattle.eql_lexer.proofs.Unique.{char_of, behind_of}
use Rattle.eql_lexer.proofs.Closing.{both, given, equal, rest_after, unicode_given}

pub split_utf8 : (a b : List ℕ) (c : ℕ) → c < 128 → IsUtf8 (a ++ c ∷ b) → IsUtf8 a × IsUtf8 b
split_utf8 a b c small u =
    let long : length a < length (a ++ c ∷ b) = omega (arith, length-append a (c ∷ b)) in
    let at : get_or (a ++ c ∷ b) (length a) 0 ≡ c = get_or-append_seam a c b 0 in
    let ascii : get_or (a ++ c ∷ b) (length a) 0 < 128 = omega (arith, at) in (
      subst IsUtf8 (take-append_seam a (c ∷ b)) (IsUtf8-take (a ++ c ∷ b) (length a) u (IsCharBoundary-before_ascii (a ++ c ∷ b) (length a) long ascii)),
      subst IsUtf8 (drop-append-add a (c ∷ b) 1) (IsUtf8-drop (a ++ c ∷ b) (length a + 1) u (IsCharBoundary-after_ascii (a ++ c ∷ b) (length a) u long ascii)),
    )

pub behind_utf8 : (b : ℕ) (bs : List ℕ) → b < 128 → IsUtf8 (b ∷ bs) → IsUtf8 bs
behind_utf8 b bs small u = (split_utf8 [] bs b small u).1

-- around an ASCII byte at n
pub around_utf8 : (bs more : List ℕ) (n c : ℕ) → c < 128 → drop n bs ≡ c ∷ more → IsUtf8 bs → IsUtf8 (take n bs) × IsUtf8 more
around_utf8 bs more n c small e u =
    split_utf8 (take n bs) more c small (subst IsUtf8 (sym (take-append-drop n bs) ∙ ap (λ l. take n bs ++ l) e) u)

unicode_utf8 : (bs : List ℕ) (c : ℕ) (more : List ℕ) → unicode bs ≡ Some (c, more) → IsUtf8 bs → IsUtf8 more
unicode_utf8 [] c more h u = cc
unicode_utf8 (b ∷ bs) c more h u =
    let g = unicode_given b bs c more h in
    let small : b < 128 = omega (arith, g.0) in
    subst IsUtf8 g.2 (around_utf8 bs _ (prefix_len is_hex bs) 125 (omega arith) (rest_after 125 (prefix_len is_hex bs) bs g.1) (behind_utf8 b bs small u)).1

tests_small : (b : ℕ) (n r t s q u : Bool) (bs : List ℕ) (o : Option (ℕ × List ℕ)) (c : ℕ) (more : List ℕ)
    → (n ≡ true → b < 128) → (r ≡ true → b < 128) → (t ≡ true → b < 128) → (s ≡ true → b < 128) → (q ≡ true → b < 128) → (u ≡ true → b < 128)
    → cond n (Some (10, bs)) (cond r (Some (13, bs)) (cond t (Some (9, bs)) (cond s (Some (92, bs)) (cond q (Some (34, bs)) (cond u o None))))) ≡ Some (c, more)
    → (b < 128) × ((bs ≡ more) ⊎ (o ≡ Some (c, more)))
tests_small b true r t s q u bs o c more f g i j k l h = (f refl, inl (ap behind_of h))
tests_small b false true t s q u bs o c more f g i j k l h = (g refl, inl (ap behind_of h))
tests_small b false false true s q u bs o c more f g i j k l h = (i refl, inl (ap behind_of h))
tests_small b false false false true q u bs o c more f g i j k l h = (j refl, inl (ap behind_of h))
tests_small b false false false false true u bs o c more f g i j k l h = (k refl, inl (ap behind_of h))
tests_small b false false false false false true bs o c more f g i j k l h = (l refl, inr h)
tests_small b false false false false false false bs o c more f g i j k l h = cc

from_test : (b d : ℕ) → d < 128 → (b == d) ≡ true → b < 128
from_test b d small e = omega (arith, equal b d e)

either_utf8 : (bs : List ℕ) (c : ℕ) (more : List ℕ) → (bs ≡ more) ⊎ (unicode bs ≡ Some (c, more)) → IsUtf8 bs → IsUtf8 more
either_utf8 bs c more (inl h) u = subst IsUtf8 h u
either_utf8 bs c more (inr h) u = unicode_utf8 bs c more h u

pub escape_utf8 : (bs : List ℕ) (c : ℕ) (more : List ℕ) → escape bs ≡ Some (c, more) → IsUtf8 bs → IsUtf8 more
escape_utf8 [] c more h u = cc
escape_utf8 (b ∷ bs) c more h u =
    let t = tests_small b (b == 110) (b == 114) (b == 116) (b == 92) (b == 34) (b == 117) bs (unicode bs) c more
    (from_test b 110 (omega arith)) (from_test b 114 (omega arith)) (from_test b 116 (omega arith)) (from_test b 92 (omega arith)) (from_test b 34 (omega arith)) (from_test b 117 (omega arith)) h in
    either_utf8 bs c more t.1 (behind_utf8 b bs t.0 u)

-- what an escape stands for is a character
unicode_scalar : (bs : List ℕ) (c : ℕ) (more : List ℕ) → unicode bs ≡ Some (c, more) → IsScalar c
unicode_scalar [] c more h = cc
unicode_scalar (b ∷ bs) c more h =
    let g = given _ _ c more h in
    let four = both _ _ g.0 in
    subst IsScalar g.1 four.1

tests_scalar : (n r t s q u : Bool) (bs : List ℕ) (o : Option (ℕ × List ℕ)) (c : ℕ) (more : List ℕ)
    → cond n (Some (10, bs)) (cond r (Some (13, bs)) (cond t (Some (9, bs)) (cond s (Some (92, bs)) (cond q (Some (34, bs)) (cond u o None))))) ≡ Some (c, more)
    → (o ≡ Some (c, more) → IsScalar c) → IsScalar c
tests_scalar true r t s q u bs o c more h f = subst IsScalar (ap char_of h) refl
tests_scalar false true t s q u bs o c more h f = subst IsScalar (ap char_of h) refl
tests_scalar false false true s q u bs o c more h f = subst IsScalar (ap char_of h) refl
tests_scalar false false false true q u bs o c more h f = subst IsScalar (ap char_of h) refl
tests_scalar false false false false true u bs o c more h f = subst IsScalar (ap char_of h) refl
tests_scalar false false false false false true bs o c more h f = f h
tests_scalar false false false false false false bs o c more h f = cc

pub escape_scalar : (bs : List ℕ) (c : ℕ) (more : List ℕ) → escape bs ≡ Some (c, more) → IsScalar c
escape_scalar [] c more h = cc
escape_scalar (b ∷ bs) c more h = tests_scalar (b == 110) (b == 114) (b == 116) (b == 92) (b == 34) (b == 117) bs (unicode bs) c more h (unicode_scalar bs c more)

-- before three quotes
triple_front : (l : List ℕ) → triple l ≡ true → l ≡ 34 ∷ 34 ∷ 34 ∷ drop 3 l
triple_front [] h = cc
triple_front (a ∷ []) h = cc
triple_front (a ∷ b ∷ []) h = cc
triple_front (a ∷ b ∷ c ∷ l) h =
    let two = both _ _ h in
    let one = both _ _ two.0 in
    let x = equal a 34 one.0 in
    let y = equal b 34 one.1 in
    let z = equal c 34 two.1 in
    cc

pub raw_cut : (bs : List ℕ) (n : ℕ) → triple (drop n bs) ≡ true → IsUtf8 bs → IsUtf8 (take n bs)
raw_cut bs n h u = (around_utf8 bs _ n 34 (omega arith) (triple_front (drop n bs) h) u).0

pub raw_utf8 : (text more : List ℕ) (b : ℕ) → text ≡ b ∷ more → triple text ≡ true → IsUtf8 text → IsUtf8 (drop 2 more)
raw_utf8 text more b e t u =
    let e' : text ≡ 34 ∷ 34 ∷ 34 ∷ drop 2 more = triple_front text t ∙ ap (λ l. 34 ∷ 34 ∷ 34 ∷ drop 3 l) e in
    behind_utf8 34 _ (omega arith) (behind_utf8 34 _ (omega arith) (behind_utf8 34 _ (omega arith) (subst IsUtf8 e' u)))
