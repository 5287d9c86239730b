-- Lists that are cut at one element.
use Rattle.std.proofs.Common.{◌≡◌, List, [], ◌∷◌, ◌++◌, refl, ap}

module _ {X : Type 0} where
  abbrev head_or : X → List X → X
  head_or d [] = d
  head_or d (x ∷ xs) = x

  abbrev rest : List X → List X
  rest [] = []
  rest (x ∷ xs) = xs

  -- equal lists have equal heads and equal tails
  pub cons_parts : (x y : X) (xs ys : List X) → x ∷ xs ≡ y ∷ ys → (x ≡ y) × (xs ≡ ys)
  cons_parts x y xs ys e = (ap (head_or x) e, ap rest e)

  pub nil_ne_cut : (xs : List X) (x : X) (ys : List X) → [] ≡ xs ++ x ∷ ys → ⊥
  nil_ne_cut [] x ys e = cc
  nil_ne_cut (z ∷ xs) x ys e = cc

  -- where one element is out, any other is still in
  pub cut_other : (xs : List X) (x : X) (ys us : List X) (y : X) (vs : List X) → xs ++ x ∷ ys ≡ us ++ y ∷ vs → (x ≡ y → ⊥) → (ws : List X) × (zs : List X) × (xs ++ ys ≡ ws ++ y ∷ zs)
  cut_other [] x ys [] y vs e differs = absurd (differs (cons_parts x y ys vs e).0)
  cut_other [] x ys (u ∷ us) y vs e differs = (us, vs, (cons_parts x u ys (us ++ y ∷ vs) e).1)
  cut_other (z ∷ xs) x ys [] y vs e differs = ([], xs ++ ys, ap (λ w. w ∷ (xs ++ ys)) (cons_parts z y (xs ++ x ∷ ys) vs e).0)
  cut_other (z ∷ xs) x ys (u ∷ us) y vs e differs =
      let on = cut_other xs x ys us y vs (cons_parts z u (xs ++ x ∷ ys) (us ++ y ∷ vs) e).1 differs in
      (z ∷ on.0, on.1, ap (λ l. z ∷ l) on.2)

  -- a list that is not empty has a last element
  pub cut_last : (x : X) (xs : List X) → (us : List X) × (k : X) × (x ∷ xs ≡ us ++ k ∷ [])
  cut_last x [] = ([], x, refl)
  cut_last x (y ∷ xs) = let on = cut_last y xs in (x ∷ on.0, on.1, ap (λ l. x ∷ l) on.2)
