-- Patterns: the parts between stars, and the part behind the last one.
use Rattle.std.proofs.Common.{◌≡◌, ℕ, zero, suc, ◌+◌, ◌-◌, ◌≤◌, Bool, true, false, List, [], ◌∷◌, ◌++◌, ◌&&◌, ◌||◌, cond, eqb, drop, length, refl, sym, ap, ◌∙◌, subst, arith, inl, inr, Some, None}
use Rattle.std.proofs.lemmas.Bool.{and_parts, or_cases, false≢true}
use Rattle.std.specs.Str.{NonePass}
use Rattle.eql_text.specs.Folding.{same}
use Rattle.eql_text.specs.Comparing.{any_end, starts, is_empty}
use Rattle.eql_text.specs.Placing.{place_from}
use Rattle.eql_text.specs.Wildcards.{wildcard, fits}
use Rattle.eql_text.specs.Fronts.{begins_fit}
use Rattle.eql_text.proofs.Endings.{and_or, and_assoc, and_false, and_true}

abbrev pub NoStar : List ℕ → Type 0
NoStar p = NonePass (λ c. eqb c 42) p

-- the pattern p has its first `*` behind n characters, and q follows it
abbrev HasStar : ℕ → List ℕ → List ℕ → Type 0
HasStar n [] q = ⊥
HasStar zero (d ∷ p) q = (d ≡ 42) × (p ≡ q)
HasStar (suc n) (d ∷ p) q = (eqb d 42 ≡ false) × HasStar n p q

star_behind : (p q : List ℕ) → NoStar p → HasStar (length p) (p ++ (42 ∷ q)) q
star_behind [] q h = (refl, refl)
star_behind (d ∷ p) q h = (h.0, star_behind p q h.1)

-- ---- a part without a star

pub before_star : (fold : Bool) (p q t : List ℕ) → NoStar p → wildcard fold (p ++ (42 ∷ q)) t ≡ begins_fit fold t p && any_end (wildcard fold q) (drop (length p) t)
before_star fold [] q t h = refl
before_star fold (d ∷ p) q [] h = ap (λ b. cond b (any_end (wildcard fold (p ++ (42 ∷ q))) []) false) h.0
before_star fold (d ∷ p) q (c ∷ t) h =
    ap (λ b. cond b (any_end (wildcard fold (p ++ (42 ∷ q))) (c ∷ t)) (fits fold d c && wildcard fold (p ++ (42 ∷ q)) t)) h.0
    ∙ ap (λ b. fits fold d c && b) (before_star fold p q t h.1)
    ∙ and_assoc (fits fold d c) (begins_fit fold t p) (any_end (wildcard fold q) (drop (length p) t))

pub without_star : (fold : Bool) (p t : List ℕ) → NoStar p → wildcard fold p t ≡ begins_fit fold t p && is_empty (drop (length p) t)
without_star fold [] t h = refl
without_star fold (d ∷ p) [] h = ap (λ b. cond b (any_end (wildcard fold p) []) false) h.0
without_star fold (d ∷ p) (c ∷ t) h =
    ap (λ b. cond b (any_end (wildcard fold p) (c ∷ t)) (fits fold d c && wildcard fold p t)) h.0
    ∙ ap (λ b. fits fold d c && b) (without_star fold p t h.1)
    ∙ and_assoc (fits fold d c) (begins_fit fold t p) (is_empty (drop (length p) t))

-- where it has no `?` it fits what begins with it
pub plain_fit : (fold : Bool) (t p : List ℕ) → NonePass (λ c. eqb c 63) p → begins_fit fold t p ≡ starts fold t p
plain_fit fold t [] h = refl
plain_fit fold [] (d ∷ p) h = refl
plain_fit fold (c ∷ t) (d ∷ p) h =
    ap (λ b. (b || same fold c d) && begins_fit fold t p) h.0
    ∙ ap (λ b. same fold c d && b) (plain_fit fold t p h.1)

-- ---- the key: where the part between two stars fits, all that follows may as well begin there

-- a test that some end of an end passes
any_end_drop : (f : List ℕ → Bool) (n : ℕ) (t : List ℕ) → any_end f (drop n t) ≡ true → any_end f t ≡ true
any_end_drop f zero t h = h
any_end_drop f (suc n) [] h = h
any_end_drop f (suc n) (c ∷ t) h = or_true (f (c ∷ t)) (any_end f t) (any_end_drop f n t h)
  where
    or_true : (a b : Bool) → b ≡ true → a || b ≡ true
    or_true true b e = refl
    or_true false b e = e

pub any_end_whole : (f : List ℕ → Bool) (t : List ℕ) → f t ≡ true → any_end f t ≡ true
any_end_whole f [] h = h
any_end_whole f (c ∷ t) h = ap (λ b. b || any_end f t) h

-- a pattern with a `*` fits only where what follows the `*` fits some end behind the front
behind_front : (fold : Bool) (n : ℕ) (p q t : List ℕ) → HasStar n p q → wildcard fold p t ≡ true → any_end (wildcard fold q) (drop n t) ≡ true
behind_front fold n [] q t h w = absurd h
behind_front fold zero (d ∷ p) q t h w =
    let first : wildcard fold (d ∷ p) t ≡ any_end (wildcard fold q) t =
    ap (λ r. wildcard fold (r ∷ p) t) h.0 ∙ ap (λ r. any_end (wildcard fold r) t) h.1 in
    sym first ∙ w
behind_front fold (suc n) (d ∷ p) q [] h w =
    let first : wildcard fold (d ∷ p) [] ≡ false = ap (λ b. cond b (any_end (wildcard fold p) []) false) h.0 in
    absurd (false≢true (sym first ∙ w))
behind_front fold (suc n) (d ∷ p) q (c ∷ t) h w =
    let first : wildcard fold (d ∷ p) (c ∷ t) ≡ fits fold d c && wildcard fold p t =
    ap (λ b. cond b (any_end (wildcard fold p) (c ∷ t)) (fits fold d c && wildcard fold p t)) h.0 in
    behind_front fold n p q t h.1 (and_parts (fits fold d c) (wildcard fold p t) (sym first ∙ w)).1

drop_drop_one : (n : ℕ) (c : ℕ) (t : List ℕ) → drop 1 (drop n (c ∷ t)) ≡ drop n t
drop_drop_one zero c t = refl
drop_drop_one (suc n) c [] = rest n
  where
    rest : (m : ℕ) → drop {A = ℕ} 1 (drop m []) ≡ []
    rest zero = refl
    rest (suc m) = refl
drop_drop_one (suc n) c (d ∷ t) = drop_drop_one n d t

some_end_behind : (fold : Bool) (n : ℕ) (p q t : List ℕ) → HasStar n p q → any_end (wildcard fold p) t ≡ true → any_end (wildcard fold q) (drop n t) ≡ true
some_end_behind fold n p q [] h w = behind_front fold n p q [] h w
some_end_behind fold n p q (c ∷ t) h w = elim (or_cases (wildcard fold p (c ∷ t)) (any_end (wildcard fold p) t) w) [
  | inl here ↦ behind_front fold n p q (c ∷ t) h here
  | inr later ↦
      let P : List ℕ → Type 0 = λ u. any_end (wildcard fold q) u ≡ true in
      any_end_drop (wildcard fold q) 1 (drop n (c ∷ t)) (subst P (sym (drop_drop_one n c t)) (some_end_behind fold n p q t h later))
]

both_ways : (a b : Bool) → (a ≡ true → b ≡ true) → (b ≡ true → a ≡ true) → a ≡ b
both_ways true b f g = sym (f refl)
both_ways false true f g = g refl
both_ways false false f g = refl

-- a part that fits here may as well be taken here
pub some_end_here : (fold : Bool) (p q t : List ℕ) → NoStar p → begins_fit fold t p ≡ true → any_end (wildcard fold (p ++ (42 ∷ q))) t ≡ any_end (wildcard fold q) (drop (length p) t)
some_end_here fold p q t h f =
    both_ways (any_end (wildcard fold (p ++ (42 ∷ q))) t) (any_end (wildcard fold q) (drop (length p) t))
    (λ w. some_end_behind fold (length p) (p ++ (42 ∷ q)) q t (star_behind p q h) w)
    (λ w. any_end_whole (wildcard fold (p ++ (42 ∷ q))) t (before_star fold p q t h ∙ ap (λ b. b && any_end (wildcard fold q) (drop (length p) t)) f ∙ w))

pub some_end_later : (fold : Bool) (p q t : List ℕ) (c : ℕ) → NoStar p → begins_fit fold (c ∷ t) p ≡ false → any_end (wildcard fold (p ++ (42 ∷ q))) (c ∷ t) ≡ any_end (wildcard fold (p ++ (42 ∷ q))) t
some_end_later fold p q t c h f =
    ap (λ b. b || any_end (wildcard fold (p ++ (42 ∷ q))) t)
    (before_star fold p q (c ∷ t) h ∙ ap (λ b. b && any_end (wildcard fold q) (drop (length p) (c ∷ t))) f)

pub some_end_never : (fold : Bool) (p q : List ℕ) → NoStar p → begins_fit fold [] p ≡ false → any_end (wildcard fold (p ++ (42 ∷ q))) [] ≡ false
some_end_never fold p q h f = before_star fold p q [] h ∙ ap (λ b. b && any_end (wildcard fold q) (drop (length p) [])) f

-- ---- a part without `?` at its first place

place_least : (fold : Bool) (n k : ℕ) (t p : List ℕ) → place_from fold n t p ≡ Some k → n ≤ k
place_least fold n k [] p e = one (starts fold [] p) e
  where
    one : (b : Bool) → cond b (Some n) None ≡ Some k → n ≤ k
    one true f = let same_place : n ≡ k = cc in omega arith
    one false f = cc
place_least fold n k (c ∷ t) p e = one (λ f. place_least fold (n + 1) k t p f) (starts fold (c ∷ t) p) e
  where
    one : (place_from fold (n + 1) t p ≡ Some k → n + 1 ≤ k) → (b : Bool) → cond b (Some n) (place_from fold (n + 1) t p) ≡ Some k → n ≤ k
    one more true f = let same_place : n ≡ k = cc in omega arith
    one more false f = let next : n + 1 ≤ k = more f in omega arith

pub some_end_placed : (fold : Bool) (n k : ℕ) (p q t : List ℕ) → NoStar p → NonePass (λ c. eqb c 63) p → place_from fold n t p ≡ Some k → any_end (wildcard fold (p ++ (42 ∷ q))) t ≡ any_end (wildcard fold q) (drop (k - n + length p) t)
some_end_placed fold n k p q [] h m e = one (starts fold [] p) refl
  where
    one : (b : Bool) → starts fold [] p ≡ b → any_end (wildcard fold (p ++ (42 ∷ q))) [] ≡ any_end (wildcard fold q) (drop (k - n + length p) [])
    one true f =
        let is : Some n ≡ Some k = ap (λ b. cond b (Some n) None) (sym f) ∙ e in
        let same_place : n ≡ k = cc in
        let at : length p ≡ k - n + length p = omega arith in
        some_end_here fold p q [] h (plain_fit fold [] p m ∙ f) ∙ ap (λ j. any_end (wildcard fold q) (drop j [])) at
    one false f = let is : None ≡ Some k = ap (λ b. cond b (Some n) None) (sym f) ∙ e in cc
some_end_placed fold n k p q (c ∷ t) h m e = one (λ f. some_end_placed fold (n + 1) k p q t h m f) (starts fold (c ∷ t) p) refl
  where
    one : (place_from fold (n + 1) t p ≡ Some k → any_end (wildcard fold (p ++ (42 ∷ q))) t ≡ any_end (wildcard fold q) (drop (k - (n + 1) + length p) t)) → (b : Bool) → starts fold (c ∷ t) p ≡ b → any_end (wildcard fold (p ++ (42 ∷ q))) (c ∷ t) ≡ any_end (wildcard fold q) (drop (k - n + length p) (c ∷ t))
    one more true f =
        let is : Some n ≡ Some k = ap (λ b. cond b (Some n) (place_from fold (n + 1) t p)) (sym f) ∙ e in
        let same_place : n ≡ k = cc in
        let at : length p ≡ k - n + length p = omega arith in
        some_end_here fold p q (c ∷ t) h (plain_fit fold (c ∷ t) p m ∙ f) ∙ ap (λ j. any_end (wildcard fold q) (drop j (c ∷ t))) at
    one more false f =
        let is : place_from fold (n + 1) t p ≡ Some k = ap (λ b. cond b (Some n) (place_from fold (n + 1) t p)) (sym f) ∙ e in
        let least : n + 1 ≤ k = place_least fold (n + 1) k t p is in
        let at : suc (k - (n + 1) + length p) ≡ k - n + length p = omega arith in
        some_end_later fold p q t c h (plain_fit fold (c ∷ t) p m ∙ f) ∙ more is ∙ ap (λ j. any_end (wildcard fold q) (drop j (c ∷ t))) at

pub some_end_nowhere : (fold : Bool) (n : ℕ) (p q t : List ℕ) → NoStar p → NonePass (λ c. eqb c 63) p → place_from fold n t p ≡ None → any_end (wildcard fold (p ++ (42 ∷ q))) t ≡ false
some_end_nowhere fold n p q [] h m e = one (starts fold [] p) refl
  where
    one : (b : Bool) → starts fold [] p ≡ b → any_end (wildcard fold (p ++ (42 ∷ q))) [] ≡ false
    one true f = let is : Some n ≡ None = ap (λ b. cond b (Some n) None) (sym f) ∙ e in cc
    one false f = some_end_never fold p q h (plain_fit fold [] p m ∙ f)
some_end_nowhere fold n p q (c ∷ t) h m e = one (λ f. some_end_nowhere fold (n + 1) p q t h m f) (starts fold (c ∷ t) p) refl
  where
    one : (place_from fold (n + 1) t p ≡ None → any_end (wildcard fold (p ++ (42 ∷ q))) t ≡ false) → (b : Bool) → starts fold (c ∷ t) p ≡ b → any_end (wildcard fold (p ++ (42 ∷ q))) (c ∷ t) ≡ false
    one more true f = let is : Some n ≡ None = ap (λ b. cond b (Some n) (place_from fold (n + 1) t p)) (sym f) ∙ e in cc
    one more false f =
        some_end_later fold p q t c h (plain_fit fold (c ∷ t) p m ∙ f)
        ∙ more (ap (λ b. cond b (Some n) (place_from fold (n + 1) t p)) (sym f) ∙ e)

-- ---- the part behind the last star, from the end

fits_none : (fold : Bool) (p : List ℕ) (d : ℕ) → NoStar (p ++ (d ∷ [])) → wildcard fold (p ++ (d ∷ [])) [] ≡ false
fits_none fold [] d h = ap (λ b. cond b (any_end (wildcard fold []) []) false) h.0
fits_none fold (e ∷ p) d h = ap (λ b. cond b (any_end (wildcard fold (p ++ (d ∷ []))) []) false) h.0

more_left : (c : ℕ) (t : List ℕ) → is_empty (t ++ (c ∷ [])) ≡ false
more_left c [] = refl
more_left c (a ∷ t) = refl

fits_last : (fold : Bool) (p t : List ℕ) (c d : ℕ) → NoStar (p ++ (d ∷ [])) → wildcard fold (p ++ (d ∷ [])) (t ++ (c ∷ [])) ≡ wildcard fold p t && fits fold d c
fits_last fold [] [] c d h = ap (λ b. cond b (any_end (wildcard fold []) (c ∷ [])) (fits fold d c && true)) h.0 ∙ and_true (fits fold d c)
fits_last fold [] (a ∷ t) c d h =
    ap (λ b. cond b (any_end (wildcard fold []) (a ∷ (t ++ (c ∷ [])))) (fits fold d a && is_empty (t ++ (c ∷ [])))) h.0
    ∙ ap (λ b. fits fold d a && b) (more_left c t) ∙ and_false (fits fold d a)
fits_last fold (e ∷ p) [] c d h =
    ap (λ b. cond b (any_end (wildcard fold (p ++ (d ∷ []))) (c ∷ [])) (fits fold e c && wildcard fold (p ++ (d ∷ [])) [])) h.0
    ∙ ap (λ b. fits fold e c && b) (fits_none fold p d h.1) ∙ and_false (fits fold e c)
    ∙ sym (ap (λ b. cond b (any_end (wildcard fold p) []) false && fits fold d c) h.0)
fits_last fold (e ∷ p) (a ∷ t) c d h =
    ap (λ b. cond b (any_end (wildcard fold (p ++ (d ∷ []))) (a ∷ (t ++ (c ∷ [])))) (fits fold e a && wildcard fold (p ++ (d ∷ [])) (t ++ (c ∷ [])))) h.0
    ∙ ap (λ b. fits fold e a && b) (fits_last fold p t c d h.1) ∙ and_assoc (fits fold e a) (wildcard fold p t) (fits fold d c)
    ∙ sym (ap (λ b. cond b (any_end (wildcard fold p) (a ∷ t)) (fits fold e a && wildcard fold p t) && fits fold d c) h.0)

ends_fit_last : (fold : Bool) (p t : List ℕ) (c d : ℕ) → NoStar (p ++ (d ∷ [])) → any_end (wildcard fold (p ++ (d ∷ []))) (t ++ (c ∷ [])) ≡ any_end (wildcard fold p) t && fits fold d c
ends_fit_last fold p [] c d h =
    ap (λ b. b || wildcard fold (p ++ (d ∷ [])) []) (fits_last fold p [] c d h)
    ∙ ap (λ b. (wildcard fold p [] && fits fold d c) || b) (fits_none fold p d h) ∙ or_false (wildcard fold p [] && fits fold d c)
  where
    or_false : (b : Bool) → b || false ≡ b
    or_false true = refl
    or_false false = refl
ends_fit_last fold p (a ∷ t) c d h =
    ap (λ b. b || any_end (wildcard fold (p ++ (d ∷ []))) (t ++ (c ∷ []))) (fits_last fold p (a ∷ t) c d h)
    ∙ ap (λ b. (wildcard fold p (a ∷ t) && fits fold d c) || b) (ends_fit_last fold p t c d h)
    ∙ and_or (wildcard fold p (a ∷ t)) (any_end (wildcard fold p) t) (fits fold d c)

pub ends_fit_all : (fold : Bool) (t : List ℕ) → any_end (wildcard fold []) t ≡ true
ends_fit_all fold [] = refl
ends_fit_all fold (c ∷ t) = ends_fit_all fold t

pub ends_fit_none : (fold : Bool) (p t p' : List ℕ) (d : ℕ) → p ≡ p' ++ (d ∷ []) → t ≡ [] → NoStar p → any_end (wildcard fold p) t ≡ false
ends_fit_none fold p t p' d ep et h = rw (ep, et) (fits_none fold p' d (subst NoStar ep h))

pub ends_fit_like : (fold : Bool) (p t p' t' : List ℕ) (c d : ℕ) → p ≡ p' ++ (d ∷ []) → t ≡ t' ++ (c ∷ []) → NoStar p → fits fold d c ≡ true → any_end (wildcard fold p) t ≡ any_end (wildcard fold p') t'
ends_fit_like fold p t p' t' c d ep et h e =
    rw (ep, et) (ends_fit_last fold p' t' c d (subst NoStar ep h) ∙ ap (λ b. any_end (wildcard fold p') t' && b) e ∙ and_true (any_end (wildcard fold p') t'))

pub ends_fit_unlike : (fold : Bool) (p t p' t' : List ℕ) (c d : ℕ) → p ≡ p' ++ (d ∷ []) → t ≡ t' ++ (c ∷ []) → NoStar p → fits fold d c ≡ false → any_end (wildcard fold p) t ≡ false
ends_fit_unlike fold p t p' t' c d ep et h e =
    rw (ep, et) (ends_fit_last fold p' t' c d (subst NoStar ep h) ∙ ap (λ b. any_end (wildcard fold p') t' && b) e ∙ and_false (any_end (wildcard fold p') t'))

none_front : (p : List ℕ) (d : ℕ) → NoStar (p ++ (d ∷ [])) → NoStar p
none_front [] d h = tt
none_front (e ∷ p) d h = (h.0, none_front p d h.1)

pub no_star_before : (p p' : List ℕ) (d : ℕ) → p ≡ p' ++ (d ∷ []) → NoStar p → NoStar p'
no_star_before p p' d e h = none_front p' d (subst NoStar e h)

-- ---- at one place after the other
pub never_at : (fold : Bool) (p q t : List ℕ) → NoStar p → false ≡ begins_fit fold t p → t ≡ [] → any_end (wildcard fold (p ++ (42 ∷ q))) t ≡ false
never_at fold p q t h f e = rw e (some_end_never fold p q h (ap (λ u. begins_fit fold u p) (sym e) ∙ sym f))

pub later_at : (fold : Bool) (p q t t' : List ℕ) (c : ℕ) → NoStar p → false ≡ begins_fit fold t p → t ≡ c ∷ t' → any_end (wildcard fold (p ++ (42 ∷ q))) t ≡ any_end (wildcard fold (p ++ (42 ∷ q))) t'
later_at fold p q t t' c h f e = rw e (some_end_later fold p q t' c h (ap (λ u. begins_fit fold u p) (sym e) ∙ sym f))

-- the character is unlike the first one of the part
pub unlike_first : (fold : Bool) (p p' q t t' : List ℕ) (d c : ℕ) → NoStar p → p ≡ d ∷ p' → t ≡ c ∷ t' → fits fold d c ≡ false → any_end (wildcard fold (p ++ (42 ∷ q))) t ≡ any_end (wildcard fold (p ++ (42 ∷ q))) t'
unlike_first fold p p' q t t' d c h e f unlike =
    later_at fold p q t t' c h
    (sym (ap (λ u. begins_fit fold u p) f ∙ ap (begins_fit fold (c ∷ t')) e ∙ ap (λ b. b && begins_fit fold t' p') unlike)) f
