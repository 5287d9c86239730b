-- A list of which each element is changed in turn.
use Rattle.std.proofs.Common.{◌≡◌, ◌<◌, ◌+◌, ℕ, zero, suc, List, [], ◌∷◌, length, set, get_or, map, refl, ap, ◌∙◌, sym, arith}

module _ {X : Type 0} (f : X → X) (d : X) where
  -- the list with its first n elements changed
  abbrev pub swept : ℕ → List X → List X
  swept zero xs = xs
  swept (suc n) [] = []
  swept (suc n) (x ∷ xs) = f x ∷ swept n xs

  swept_more : (n : ℕ) (xs : List X) → n < length xs → set (swept n xs) n (f (get_or (swept n xs) n d)) ≡ swept (suc n) xs
  swept_more n [] l = absurd (omega arith)
  swept_more zero (x ∷ xs) l = refl
  swept_more (suc n) (x ∷ xs) l = ap (λ (ys : List X). f x ∷ ys) (swept_more n xs (omega arith))

  pub length-swept : (n : ℕ) (xs : List X) → length (swept n xs) ≡ length xs
  length-swept zero xs = refl
  length-swept (suc n) [] = refl
  length-swept (suc n) (x ∷ xs) = ap suc (length-swept n xs)

  -- one more
  pub swept_one : (n at : ℕ) (before after xs : List X) → at ≡ n → n < length xs → before ≡ swept n xs → after ≡ set before at (f (get_or before at d)) → after ≡ swept (n + 1) xs
  swept_one n at before after xs e l b a =
      let one : n + 1 ≡ suc n = omega arith in
      a ∙ ap (λ (i : ℕ). set before i (f (get_or before i d))) e ∙ ap (λ (ys : List X). set ys n (f (get_or ys n d))) b
      ∙ swept_more n xs l ∙ ap (λ (m : ℕ). swept m xs) (sym one)

  all_swept : (xs : List X) → swept (length xs) xs ≡ map f xs
  all_swept [] = refl
  all_swept (x ∷ xs) = ap (λ (ys : List X). f x ∷ ys) (all_swept xs)

  -- all
  pub swept_all : (n : ℕ) (now xs : List X) → n ≡ length xs → now ≡ swept n xs → now ≡ map f xs
  swept_all n now xs e h = h ∙ ap (λ (m : ℕ). swept m xs) e ∙ all_swept xs
