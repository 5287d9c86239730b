-- Lists that change in one place, and lists of what stands in others.
use Rattle.std.proofs.Common.{◌≡◌, ◌≢◌, ℕ, zero, suc, ◌<◌, List, [], ◌∷◌, ◌++◌, Some, length, map, take, drop, reverse, refl, sym, ap, ◌∙◌, subst, arith}
use Rattle.std.specs.Prelude.{slice_get, slice_set, All}
use Rattle.std.proofs.lemmas.List.{reverse-append}
use Rattle.std.proofs.lemmas.List.Elements.{All-cons, All-head, All-tail}

module _ {X Y : Type 0} (f : X → Y) where
  pub map_get : (xs : List X) (k : ℕ) (x : X) → slice_get xs k ≡ Some x → slice_get (map f xs) k ≡ Some (f x)
  map_get [] k x e = absurd cc
  map_get (z ∷ xs) zero x e = let s : z ≡ x = cc in ap (λ (w : X). Some (f w)) s
  map_get (z ∷ xs) (suc k) x e = map_get xs k x e

  pub map_set : (xs : List X) (k : ℕ) (x : X) → map f (slice_set xs k x) ≡ slice_set (map f xs) k (f x)
  map_set [] k x = refl
  map_set (z ∷ xs) zero x = refl
  map_set (z ∷ xs) (suc k) x = ap (λ (l : List Y). f z ∷ l) (map_set xs k x)

module _ {X : Type 0} where
  pub here : (xs : List X) (k : ℕ) (x y : X) → slice_get xs k ≡ Some y → slice_get (slice_set xs k x) k ≡ Some x
  here [] k x y e = absurd cc
  here (z ∷ xs) zero x y e = refl
  here (z ∷ xs) (suc k) x y e = here xs k x y e

  pub else_there : (xs : List X) (k j : ℕ) (x : X) → j ≢ k → slice_get (slice_set xs k x) j ≡ slice_get xs j
  else_there [] k j x apart = refl
  else_there (z ∷ xs) zero zero x apart = absurd (apart refl)
  else_there (z ∷ xs) zero (suc j) x apart = refl
  else_there (z ∷ xs) (suc k) zero x apart = refl
  else_there (z ∷ xs) (suc k) (suc j) x apart = else_there xs k j x (λ e. apart (ap suc e))

  pub set_same : (xs : List X) (k : ℕ) (x : X) → slice_get xs k ≡ Some x → slice_set xs k x ≡ xs
  set_same [] k x e = refl
  set_same (z ∷ xs) zero x e = let s : x ≡ z = cc in ap (λ (w : X). w ∷ xs) s
  set_same (z ∷ xs) (suc k) x e = ap (λ (l : List X). z ∷ l) (set_same xs k x e)

  pub all_at : (P : X → Type 0) (xs : List X) (k : ℕ) (x : X) → All P xs → slice_get xs k ≡ Some x → P x
  all_at P [] k x all e = absurd cc
  all_at P (z ∷ xs) zero x all e = let s : z ≡ x = cc in subst P s (All-head P z xs all)
  all_at P (z ∷ xs) (suc k) x all e = all_at P xs k x (All-tail P z xs all) e

  pub all_set : (P : X → Type 0) (xs : List X) (k : ℕ) (x : X) → All P xs → P x → All P (slice_set xs k x)
  all_set P [] k x all p = all
  all_set P (z ∷ xs) zero x all p = All-cons P x xs p (All-tail P z xs all)
  all_set P (z ∷ xs) (suc k) x all p = All-cons P z (slice_set xs k x) (All-head P z xs all) (all_set P xs k x (All-tail P z xs all) p)

  pub there_or : (xs : List X) (k : ℕ) → k < length xs → (x : X) × (slice_get xs k ≡ Some x)
  there_or [] k h = absurd (omega (arith, h))
  there_or (x ∷ xs) zero h = (x, refl)
  there_or (x ∷ xs) (suc k) h = there_or xs k (omega (arith, h))

  -- one more of the first ones
  pub take_more : (xs : List X) (k : ℕ) (x : X) → slice_get xs k ≡ Some x → take (suc k) xs ≡ take k xs ++ x ∷ []
  take_more [] k x e = absurd cc
  take_more (z ∷ xs) zero x e = let s : z ≡ x = cc in ap (λ (w : X). w ∷ []) s
  take_more (z ∷ xs) (suc k) x e = ap (λ (l : List X). z ∷ l) (take_more xs k x e)

  pub drop_at : (xs : List X) (k : ℕ) (x : X) → slice_get xs k ≡ Some x → drop k xs ≡ x ∷ drop (suc k) xs
  drop_at [] k x e = absurd cc
  drop_at (z ∷ xs) zero x e = let s : z ≡ x = cc in ap (λ (w : X). w ∷ xs) s
  drop_at (z ∷ xs) (suc k) x e = drop_at xs k x e

  -- the first ones, changed by a function, and the others
  pub back_get : (f : X → X) (xs : List X) (k : ℕ) (x : X) → slice_get (map f (take k xs) ++ drop k xs) k ≡ Some x → slice_get xs k ≡ Some x
  back_get f [] zero x e = e
  back_get f [] (suc k) x e = e
  back_get f (z ∷ xs) zero x e = e
  back_get f (z ∷ xs) (suc k) x e = back_get f xs k x e

  pub back_set : (f : X → X) (xs : List X) (k : ℕ) (x : X) → slice_get xs k ≡ Some x
      → slice_set (map f (take k xs) ++ drop k xs) k (f x) ≡ map f (take (suc k) xs) ++ drop (suc k) xs
  back_set f [] k x e = absurd cc
  back_set f (z ∷ xs) zero x e = let s : x ≡ z = cc in ap (λ (w : X). f w ∷ xs) s
  back_set f (z ∷ xs) (suc k) x e = ap (λ (l : List X). f z ∷ l) (back_set f xs k x e)

  -- the first ones, and others behind them
  pub front_get : (xs ys : List X) (k : ℕ) (x : X) → k < length xs → slice_get (take (suc k) xs ++ ys) k ≡ Some x → slice_get xs k ≡ Some x
  front_get [] ys k x h e = absurd (omega (arith, h))
  front_get (z ∷ xs) ys zero x h e = e
  front_get (z ∷ xs) ys (suc k) x h e = front_get xs ys k x (omega (arith, h)) e

  pub front_set : (xs ys : List X) (k : ℕ) (x : X) → k < length xs → slice_set (take (suc k) xs ++ ys) k x ≡ take k xs ++ x ∷ ys
  front_set [] ys k x h = absurd (omega (arith, h))
  front_set (z ∷ xs) ys zero x h = refl
  front_set (z ∷ xs) ys (suc k) x h = ap (λ (l : List X). z ∷ l) (front_set xs ys k x (omega (arith, h)))

-- what two lists have in a place is the same where the lists are
pub same_at : {X Y Z : Type 0} (f : X → Z) (g : Y → Z) (xs : List X) (ys : List Y) (k : ℕ) (x : X) (y : Y) → map f xs ≡ map g ys
    → slice_get xs k ≡ Some x → slice_get ys k ≡ Some y → f x ≡ g y
same_at f g xs ys k x y e at there =
    let a = map_get f xs k x at in
    let b = map_get g ys k y there in
    let h : Some (f x) ≡ Some (g y) = sym a ∙ (ap (λ (l : List _). slice_get l k) e ∙ b) in cc

module _ {X : Type 0} where
  -- the last of the first ones
  pub last_of : (xs : List X) (k : ℕ) (ys : List X) (y : X) → ys ++ y ∷ [] ≡ take (suc k) xs → length ys ≡ k → (slice_get xs k ≡ Some y) × (ys ≡ take k xs)
  last_of [] k [] y e h = absurd cc
  last_of [] k (w ∷ ys) y e h = absurd cc
  last_of (z ∷ xs) zero [] y e h = (let s : z ≡ y = cc in ap (λ (w : X). Some w) s, refl)
  last_of (z ∷ xs) zero (w ∷ ys) y e h = absurd (omega (arith, h))
  last_of (z ∷ xs) (suc k) [] y e h = absurd (omega (arith, h))
  last_of (z ∷ xs) (suc k) (w ∷ ys) y e h =
      let s : w ≡ z = cc in
      let more : ys ++ y ∷ [] ≡ take (suc k) xs = cc in
      let rest = last_of xs k ys y more (omega (arith, h)) in
      (rest.0, ap (λ (l : List X). w ∷ l) rest.1 ∙ ap (λ (v : X). v ∷ take k xs) s)

  pub reverse_one : (x : X) (xs : List X) → reverse (x ∷ xs) ≡ reverse xs ++ x ∷ []
  reverse_one x xs = reverse-append (x ∷ []) xs

  pub take_all : (xs : List X) → take (length xs) xs ≡ xs
  take_all [] = refl
  take_all (x ∷ xs) = ap (λ (l : List X). x ∷ l) (take_all xs)

  pub drop_all : (xs : List X) → drop (length xs) xs ≡ []
  drop_all [] = refl
  drop_all (x ∷ xs) = drop_all xs
