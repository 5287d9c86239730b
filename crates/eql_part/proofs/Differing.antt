-- Lists of which no two elements are the same.
use Rattle.std.proofs.Common.{◌≡◌, ◌<◌, ◌+◌, ℕ, zero, suc, Bool, true, false, cond, eqb, List, [], ◌∷◌, ◌++◌, length, get_or, refl, sym, ap, ◌∙◌, arith, inl, inr}
use Rattle.std.specs.List.{Contains, swap}
use Rattle.std.specs.List.Sorted.{IsPermutation}
use Rattle.std.proofs.lemmas.Bool.{eqb-true, eqb-false}
use Rattle.std.proofs.lemmas.Bool.Decides.{nat_tests}
use Rattle.std.proofs.lemmas.List.{length-append, get_or_append_left, get_or-append-add, get_or_default}
use Rattle.std.proofs.lemmas.List.Sorted.{IsPermutation-keeps, IsPermutation-swap, length_permutation}
use Rattle.std.proofs.lemmas.List.Elements.{Contains-append_cases}
use Rattle.std.proofs.lemmas.List.Edits.{Swapped, swapped_from_swap}
use Rattle.eql_part.specs.Links.{Differ}

-- the place that another had before an exchange
exchanged_place : ℕ → ℕ → ℕ → ℕ
exchanged_place a b i = cond (eqb i a) b (cond (eqb i b) a i)

exchanged_back : (a b i : ℕ) → exchanged_place a b (exchanged_place a b i) ≡ i
unfolding exchanged_place
exchanged_back a b i = grind (arith, nat_tests)

exchanged_below : (a b i n : ℕ) → a < n → b < n → i < n → exchanged_place a b i < n
unfolding exchanged_place
exchanged_below a b i n l m k = grind (arith, nat_tests)

module _ {X : Type 0} where
  read_exchanged : (f g : ℕ → X) (a b i : ℕ) → Swapped f g a b → g i ≡ f (exchanged_place a b i)
  unfolding exchanged_place
  read_exchanged f g a b i sw = one (eqb i a) (eqb i b) refl refl
    where
      one : (x y : Bool) → eqb i a ≡ x → eqb i b ≡ y → g i ≡ f (cond x b (cond y a i))
      one true y e h = ap g (eqb-true i a e) ∙ sw.0
      one false true e h = ap g (eqb-true i b h) ∙ sw.1
      one false false e h = sw.2 i (eqb-false i a e) (eqb-false i b h)

  differ_swap : (l : List X) (a b : ℕ) → a < length l → b < length l → Differ l → Differ (swap l a b)
  differ_swap l a b la lb h = λ i j d li lj e.
      let len = length_permutation l (swap l a b) (IsPermutation-swap l (swap l a b) a b la lb refl) in
      let sw = swapped_from_swap l (swap l a b) a b d la lb refl in
      let read_i = read_exchanged (λ k. get_or l k d) (λ k. get_or (swap l a b) k d) a b i sw in
      let read_j = read_exchanged (λ k. get_or l k d) (λ k. get_or (swap l a b) k d) a b j sw in
      let bi : i < length l = omega arith in let bj : j < length l = omega arith in
      let same = h (exchanged_place a b i) (exchanged_place a b j) d (exchanged_below a b i (length l) la lb bi) (exchanged_below a b j (length l) la lb bj) (sym read_i ∙ e ∙ read_j) in
      sym (exchanged_back a b i) ∙ ap (exchanged_place a b) same ∙ exchanged_back a b j

  pub differ_permutation : (xs ys : List X) → IsPermutation xs ys → Differ xs → Differ ys
  differ_permutation xs ys p h = IsPermutation-keeps xs Differ h differ_swap ys p

  pub differ_nil : Differ {X = X} []
  differ_nil i j d l m e = absurd (omega arith)

  pub differ_head : (x : X) (xs : List X) → Differ (x ∷ xs) → Contains xs x → ⊥
  differ_head x xs h c = let in' = c.1 in let e = h 0 (suc c.0) x (omega arith) (omega arith) (sym c.2) in omega arith

  pub differ_cons : (x : X) (xs : List X) → (Contains xs x → ⊥) → Differ xs → Differ (x ∷ xs)
  differ_cons x xs none h zero zero d l m e = refl
  differ_cons x xs none h zero (suc j) d l m e =
      let in' : j < length xs = omega arith in absurd (none (j, in', get_or_default xs j x d in' ∙ sym e))
  differ_cons x xs none h (suc i) zero d l m e =
      let in' : i < length xs = omega arith in absurd (none (i, in', get_or_default xs i x d in' ∙ e))
  differ_cons x xs none h (suc i) (suc j) d l m e = ap suc (h i j d (omega arith) (omega arith) e)

  pub differ_left : (xs ys : List X) → Differ (xs ++ ys) → Differ xs
  differ_left xs ys h i j d l m e =
      let len = length-append xs ys in
      h i j d (omega arith) (omega arith) (get_or_append_left xs ys d i l ∙ e ∙ sym (get_or_append_left xs ys d j m))

  pub differ_right : (xs ys : List X) → Differ (xs ++ ys) → Differ ys
  differ_right xs ys h i j d l m e =
      let len = length-append xs ys in
      let same = h (length xs + i) (length xs + j) d (omega arith) (omega arith) (get_or-append-add xs ys i d ∙ e ∙ sym (get_or-append-add xs ys j d)) in omega arith

  -- none of the one list is in the other
  pub differ_across : (xs ys : List X) → Differ (xs ++ ys) → (x : X) → Contains xs x → Contains ys x → ⊥
  differ_across xs ys h x (i, l, e) (j, m, f) =
      let len = length-append xs ys in
      let same = h i (length xs + j) x (omega arith) (omega arith) (get_or_append_left xs ys x i l ∙ e ∙ sym f ∙ sym (get_or-append-add xs ys j x)) in omega arith

  pub differ_append : (xs ys : List X) → Differ xs → Differ ys → ((x : X) → Contains xs x → Contains ys x → ⊥) → Differ (xs ++ ys)
  differ_append [] ys h k across = k
  differ_append (x ∷ xs) ys h k across =
      differ_cons x (xs ++ ys) (λ c. elim (Contains-append_cases xs ys x c) [
        | inl l ↦ differ_head x xs h l
        | inr r ↦ across x (0, omega arith, refl) r
      ])
      (differ_append xs ys (differ_right (x ∷ []) xs h) k (λ y c. across y (suc c.0, (let in' = c.1 in omega arith), c.2)))
