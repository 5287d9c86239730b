-- A text at the end of another, read from the last character.
use Rattle.std.proofs.Common.{◌≡◌, ℕ, Bool, true, false, List, [], ◌∷◌, ◌++◌, ◌&&◌, ◌||◌, refl, sym, ap, ◌∙◌}
use Rattle.eql_text.specs.Folding.{same}
use Rattle.eql_text.specs.Comparing.{equal, ends}

pub and_or : (a b c : Bool) → (a && c) || (b && c) ≡ (a || b) && c
and_or true b true = refl
and_or true true false = refl
and_or true false false = refl
and_or false b c = refl

pub and_assoc : (a b c : Bool) → a && (b && c) ≡ (a && b) && c
and_assoc true b c = refl
and_assoc false b c = refl

pub and_false : (b : Bool) → b && false ≡ false
and_false true = refl
and_false false = refl

pub and_true : (b : Bool) → b && true ≡ b
and_true true = refl
and_true false = refl

filled : (fold : Bool) (c : ℕ) (s : List ℕ) → equal fold (s ++ (c ∷ [])) [] ≡ false
filled fold c [] = refl
filled fold c (e ∷ s) = refl

unlike : (fold : Bool) (d : ℕ) (t : List ℕ) → equal fold [] (t ++ (d ∷ [])) ≡ false
unlike fold d [] = refl
unlike fold d (e ∷ t) = refl

equal_last : (fold : Bool) (s t : List ℕ) (c d : ℕ) → equal fold (s ++ (c ∷ [])) (t ++ (d ∷ [])) ≡ equal fold s t && same fold c d
equal_last fold [] [] c d = and_true (same fold c d)
equal_last fold [] (e ∷ t) c d = ap (λ b. same fold c e && b) (unlike fold d t) ∙ and_false (same fold c e)
equal_last fold (a ∷ s) [] c d = ap (λ b. same fold a d && b) (filled fold c s) ∙ and_false (same fold a d)
equal_last fold (a ∷ s) (e ∷ t) c d = ap (λ b. same fold a e && b) (equal_last fold s t c d) ∙ and_assoc (same fold a e) (equal fold s t) (same fold c d)

pub ends_last : (fold : Bool) (s t : List ℕ) (c d : ℕ) → ends fold (s ++ (c ∷ [])) (t ++ (d ∷ [])) ≡ ends fold s t && same fold c d
ends_last fold [] t c d =
    ap (λ b. b || equal fold [] (t ++ (d ∷ []))) (equal_last fold [] t c d)
    ∙ ap (λ b. (equal fold [] t && same fold c d) || b) (unlike fold d t) ∙ or_false (equal fold [] t && same fold c d)
  where
    or_false : (b : Bool) → b || false ≡ b
    or_false true = refl
    or_false false = refl
ends_last fold (a ∷ s) t c d =
    ap (λ b. b || ends fold (s ++ (c ∷ [])) (t ++ (d ∷ []))) (equal_last fold (a ∷ s) t c d)
    ∙ ap (λ b. (equal fold (a ∷ s) t && same fold c d) || b) (ends_last fold s t c d)
    ∙ and_or (equal fold (a ∷ s) t) (ends fold s t) (same fold c d)

pub ends_all : (fold : Bool) (s : List ℕ) → ends fold s [] ≡ true
ends_all fold [] = refl
ends_all fold (c ∷ s) = ends_all fold s

pub ends_none : (fold : Bool) (t : List ℕ) (d : ℕ) → ends fold [] (t ++ (d ∷ [])) ≡ false
ends_none fold t d = unlike fold d t

-- one character before the ends: the same, or not
pub ends_like : (fold : Bool) (s t s' t' : List ℕ) (c d : ℕ) (b : Bool) → s ≡ s' ++ (c ∷ []) → t ≡ t' ++ (d ∷ []) → b ≡ same fold c d → b ≡ true → ends fold s t ≡ ends fold s' t'
ends_like fold s t s' t' c d b es et e like =
    rw (es, et) (ends_last fold s' t' c d ∙ ap (λ k. ends fold s' t' && k) (sym e ∙ like) ∙ and_true (ends fold s' t'))

pub ends_unlike : (fold : Bool) (s t s' t' : List ℕ) (c d : ℕ) (b : Bool) → s ≡ s' ++ (c ∷ []) → t ≡ t' ++ (d ∷ []) → b ≡ same fold c d → b ≡ false → ends fold s t ≡ false
ends_unlike fold s t s' t' c d b es et e unlike_ones =
    rw (es, et) (ends_last fold s' t' c d ∙ ap (λ k. ends fold s' t' && k) (sym e ∙ unlike_ones) ∙ and_false (ends fold s' t'))
