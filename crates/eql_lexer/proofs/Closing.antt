-- Whether a string is closed doesn't change over its plain bytes and its escapes.
use Rattle.std.proofs.Common.{◌≡◌, ◌≢◌, ℕ, zero, suc, ◌+◌, List, [], ◌∷◌, drop, Bool, true, false, cond, Option, None, Some, inl, inr, ◌⊎◌, refl, sym, ap, ◌∙◌, arith, ◌==◌, ◌&&◌}
use Rattle.std.proofs.lemmas.Bool.Decides.{nat_tests}
use Rattle.std.specs.List.{prefix_len}
use Rattle.eql_lexer.specs.Bytes.{begins, is_hex}
use Rattle.eql_lexer.specs.Escapes.{escape, unicode}
use Rattle.eql_lexer.specs.Strings.{IsPlain, is_closed, is_closed_behind, IsContent, closed, plain, escaped}
use Rattle.eql_lexer.proofs.Unique.{true_not_false, char_of, behind_of}

pub unequal : (b c : ℕ) → b ≢ c → (b == c) ≡ false
unequal b c h = grind (arith, nat_tests)

pub closed_plain : (b : ℕ) (bs : List ℕ) → IsPlain b → is_closed (b ∷ bs) ≡ is_closed bs
closed_plain b bs p = rw (unequal b 34 p.0, unequal b 10 p.2, unequal b 92 p.1) refl

hex_plain : (b : ℕ) → is_hex b ≡ true → IsPlain b
hex_plain b h = (λ e. true_not_false (sym h ∙ ap is_hex e), λ e. true_not_false (sym h ∙ ap is_hex e), λ e. true_not_false (sym h ∙ ap is_hex e))

skip_step : (t : Bool) (b : ℕ) (bs : List ℕ) → is_hex b ≡ t → is_closed bs ≡ is_closed (drop (prefix_len is_hex bs) bs)
    → is_closed (b ∷ bs) ≡ is_closed (drop (cond t (1 + prefix_len is_hex bs) 0) (b ∷ bs))
skip_step true b bs h ih =
    let one : 1 + prefix_len is_hex bs ≡ suc (prefix_len is_hex bs) = omega arith in
    rw one (closed_plain b bs (hex_plain b h) ∙ ih)
skip_step false b bs h ih = refl

pub skip_hex : (bs : List ℕ) → is_closed bs ≡ is_closed (drop (prefix_len is_hex bs) bs)
skip_hex [] = refl
skip_hex (b ∷ bs) = skip_step (is_hex b) b bs refl (skip_hex bs)

pub both : (a b : Bool) → (a && b) ≡ true → (a ≡ true) × (b ≡ true)
both true true h = (refl, refl)
both true false h = absurd (true_not_false (sym h))
both false b h = absurd (true_not_false (sym h))

pub given : (t : Bool) (x : ℕ × List ℕ) (c : ℕ) (more : List ℕ) → cond t (Some x) None ≡ Some (c, more) → (t ≡ true) × (x.0 ≡ c) × (x.1 ≡ more)
given true x c more h = (refl, ap char_of h, ap behind_of h)
given false x c more h = cc

pub equal : (b c : ℕ) → (b == c) ≡ true → b ≡ c
equal b c h = grind (arith, nat_tests)

begins_cons : (c : ℕ) (l : List ℕ) → begins c l ≡ true → l ≡ c ∷ drop 1 l
begins_cons c [] h = absurd (true_not_false (sym h))
begins_cons c (b ∷ bs) h = ap (λ x. x ∷ bs) (equal b c h)

pub rest_after : (c n : ℕ) (bs : List ℕ) → begins c (drop n bs) ≡ true → drop n bs ≡ c ∷ drop (n + 1) bs
rest_after c zero bs h = begins_cons c bs h
rest_after c (suc n) [] h = absurd (true_not_false (sym h))
rest_after c (suc n) (b ∷ bs) h = let e : suc n + 1 ≡ suc (n + 1) = omega arith in rw e (rest_after c n bs h)

pub unicode_given : (b : ℕ) (bs : List ℕ) (c : ℕ) (more : List ℕ) → unicode (b ∷ bs) ≡ Some (c, more)
    → (b ≡ 123) × (begins 125 (drop (prefix_len is_hex bs) bs) ≡ true) × (drop (prefix_len is_hex bs + 1) bs ≡ more)
unicode_given b bs c more h =
    let g = given _ _ c more h in
    let four = both _ _ g.0 in
    let three = both _ _ four.0 in
    let two = both _ _ three.0 in
    let one = both _ _ two.0 in
    (equal b 123 one.0, three.1, g.2)

unicode_closed : (bs : List ℕ) (c : ℕ) (more : List ℕ) → unicode bs ≡ Some (c, more) → is_closed bs ≡ is_closed more
unicode_closed [] c more h = cc
unicode_closed (b ∷ bs) c more h =
    let g = unicode_given b bs c more h in
    ap (λ x. is_closed (x ∷ bs)) g.0 ∙ skip_hex bs ∙ ap is_closed (rest_after 125 (prefix_len is_hex bs) bs g.1) ∙ ap is_closed g.2

pub escape_cases : (n r t s q u : Bool) (bs : List ℕ) (o : Option (ℕ × List ℕ)) (c : ℕ) (more : List ℕ)
    → cond n (Some (10, bs)) (cond r (Some (13, bs)) (cond t (Some (9, bs)) (cond s (Some (92, bs)) (cond q (Some (34, bs)) (cond u o None))))) ≡ Some (c, more)
    → (bs ≡ more) ⊎ (o ≡ Some (c, more))
escape_cases true r t s q u bs o c more h = inl (ap behind_of h)
escape_cases false true t s q u bs o c more h = inl (ap behind_of h)
escape_cases false false true s q u bs o c more h = inl (ap behind_of h)
escape_cases false false false true q u bs o c more h = inl (ap behind_of h)
escape_cases false false false false true u bs o c more h = inl (ap behind_of h)
escape_cases false false false false false true bs o c more h = inr h
escape_cases false false false false false false bs o c more h = cc

escape_line : (b : ℕ) (bs : List ℕ) (c : ℕ) (more : List ℕ) → escape (b ∷ bs) ≡ Some (c, more) → b ≢ 10
escape_line b bs c more h e = let none : escape (b ∷ bs) ≡ None = rw e refl in cc

closed_behind : (bs more : List ℕ) (c : ℕ) → (bs ≡ more) ⊎ (unicode bs ≡ Some (c, more)) → is_closed bs ≡ is_closed more
closed_behind bs more c (inl h) = ap is_closed h
closed_behind bs more c (inr h) = unicode_closed bs c more h

pub closed_escape : (bs : List ℕ) (c : ℕ) (more : List ℕ) → escape bs ≡ Some (c, more) → is_closed_behind bs ≡ is_closed more
closed_escape [] c more h = cc
closed_escape (b ∷ bs) c more h =
    rw (unequal b 10 (escape_line b bs c more h))
    (closed_behind bs more c (escape_cases (b == 110) (b == 114) (b == 116) (b == 92) (b == 34) (b == 117) bs (unicode bs) c more h))

pub content_closed : (bs s rest : List ℕ) → IsContent bs s rest → is_closed bs ≡ true
content_closed _ _ _ (closed p) = rw p refl
content_closed _ _ _ (plain {b = b} {bs = bs} p h) = closed_plain b bs p ∙ content_closed _ _ _ h
content_closed _ _ _ (escaped {c = c} {bs = bs} {more = more} p e f h) = rw p (closed_escape bs c more e ∙ content_closed _ _ _ h)
