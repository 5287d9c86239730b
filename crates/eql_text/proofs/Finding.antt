-- The first and the last place of a text in another.
use Rattle.std.proofs.Common.{◌≡◌, ℕ, ◌+◌, Bool, true, false, List, [], ◌∷◌, ◌&&◌, ◌||◌, cond, Option, Some, None, refl, sym, ap, ◌∙◌, ◌<◌, ◌≤◌, length, drop, leb, arith}
use Rattle.std.proofs.lemmas.Bool.Decides.{nat_tests}
use Rattle.std.specs.Option.{option_or, option_map, is_some}
use Rattle.eql_text.specs.Folding.{same}
use Rattle.eql_text.specs.Comparing.{starts, contains}
use Rattle.eql_text.specs.Placing.{place_from, last_place_from, place_after}

pub place_here : (fold : Bool) (n : ℕ) (s t : List ℕ) → true ≡ starts fold s t → place_from fold n s t ≡ Some n
place_here fold n [] t h = ap (λ b. cond b (Some n) None) (sym h)
place_here fold n (c ∷ s) t h = ap (λ b. cond b (Some n) (place_from fold (n + 1) s t)) (sym h)

pub place_later : (fold : Bool) (n c : ℕ) (s s' t : List ℕ) → false ≡ starts fold s t → s ≡ c ∷ s' → place_from fold n s t ≡ place_from fold (n + 1) s' t
place_later fold n c s s' t h e =
    rw e (ap (λ b. cond b (Some n) (place_from fold (n + 1) s' t)) (sym (h ∙ ap (λ r. starts fold r t) e)))

-- a text doesn't stand where its first character is unlike
pub place_unlike : (fold : Bool) (n c d : ℕ) (s s' t : List ℕ) → same fold c d ≡ false → s ≡ c ∷ s' → place_from fold n s (d ∷ t) ≡ place_from fold (n + 1) s' (d ∷ t)
place_unlike fold n c d s s' t unlike e =
    place_later fold n c s s' (d ∷ t) (sym (ap (λ r. starts fold r (d ∷ t)) e ∙ ap (λ b. b && starts fold s' t) unlike)) e

pub place_nowhere : (fold : Bool) (n : ℕ) (s t : List ℕ) → false ≡ starts fold s t → s ≡ [] → place_from fold n s t ≡ None
place_nowhere fold n s t h e = rw e (ap (λ b. cond b (Some n) None) (sym (h ∙ ap (λ r. starts fold r t) e)))

-- a text stands somewhere exactly when it has a place
pub contains_place : (fold : Bool) (n : ℕ) (s t : List ℕ) → contains fold s t ≡ is_some (place_from fold n s t)
contains_place fold n [] t = one (starts fold [] t)
  where
    one : (b : Bool) → b ≡ is_some (cond b (Some n) None)
    one true = refl
    one false = refl
contains_place fold n (c ∷ s) t = elim (starts fold (c ∷ s) t) as (λ b. b || contains fold s t ≡ is_some (cond b (Some n) (place_from fold (n + 1) s t))) [
  | true ↦ refl
  | false ↦ contains_place fold (n + 1) s t
]

-- ---- the last place, where f was found before
some_over : (a f : Option ℕ) (n : ℕ) → option_or (option_or a (Some n)) f ≡ option_or a (Some n)
some_over None f n = refl
some_over (Some m) f n = refl

none_over : (a f : Option ℕ) → option_or (option_or a None) f ≡ option_or a f
none_over None f = refl
none_over (Some m) f = refl

pub last_here : (fold : Bool) (n c : ℕ) (s s' t : List ℕ) (f : Option ℕ) → true ≡ starts fold s t → s ≡ c ∷ s' → option_or (last_place_from fold n s t) f ≡ option_or (last_place_from fold (n + 1) s' t) (Some n)
last_here fold n c s s' t f h e =
    rw e (ap (λ b. option_or (option_or (last_place_from fold (n + 1) s' t) (cond b (Some n) None)) f) (sym (h ∙ ap (λ r. starts fold r t) e)) ∙ some_over (last_place_from fold (n + 1) s' t) f n)

pub last_elsewhere : (fold : Bool) (n c : ℕ) (s s' t : List ℕ) (f : Option ℕ) → false ≡ starts fold s t → s ≡ c ∷ s' → option_or (last_place_from fold n s t) f ≡ option_or (last_place_from fold (n + 1) s' t) f
last_elsewhere fold n c s s' t f h e =
    rw e (ap (λ b. option_or (option_or (last_place_from fold (n + 1) s' t) (cond b (Some n) None)) f) (sym (h ∙ ap (λ r. starts fold r t) e)) ∙ none_over (last_place_from fold (n + 1) s' t) f)

pub last_end : (fold : Bool) (n : ℕ) (s t : List ℕ) (f : Option ℕ) → s ≡ [] → option_or (last_place_from fold n s t) f ≡ cond (starts fold s t) (Some n) f
last_end fold n s t f e = rw e (one (starts fold [] t))
  where
    one : (b : Bool) → option_or (cond b (Some n) None) f ≡ cond b (Some n) f
    one true = refl
    one false = refl

pub is_some_map : {A B : Type 0} (f : A → B) (o : Option A) → is_some (option_map f o) ≡ is_some o
is_some_map f None = refl
is_some_map f (Some a) = refl

-- ---- a search from a place on
pub place_past : (fold : Bool) (s t : List ℕ) (start : ℕ) → length s < start → place_after fold s t start ≡ None
unfolding place_after
place_past fold s t start h =
    let outside : leb start (length s) ≡ false = grind (arith, nat_tests) in
    ap (λ b. cond b (place_from fold start (drop start s) t) None) outside

pub place_within : (fold : Bool) (s t : List ℕ) (start : ℕ) → start ≤ length s → place_after fold s t start ≡ place_from fold start (drop start s) t
unfolding place_after
place_within fold s t start h =
    let inside : leb start (length s) ≡ true = grind (arith, nat_tests) in
    ap (λ b. cond b (place_from fold start (drop start s) t) None) inside
