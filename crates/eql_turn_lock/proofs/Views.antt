-- Facts on the views of all seats.
use Rattle.std.proofs.Common.{◌≡◌, ◌≢◌, ℕ, zero, suc, ◌+◌, ◌<◌, ◌≤◌, Bool, true, false, List, [], ◌∷◌, ◌++◌, length, set, refl, sym, ap, ◌∙◌, arith, ne_eqb, append-nil}
use Rattle.std.proofs.lemmas.List.{append_assoc}
use Rattle.std.proofs.lemmas.Bool.{ltb-true, ltb-false}
use Rattle.std.proofs.lemmas.List.Elements.{All-tail, All-head}
use Rattle.std.specs.Prelude.{All, if◌then◌else◌, ltb}
use mathlib.Core.Logic.{◌⊎◌, inl, inr, ⊎_elim}
use mathlib.Core.Option.{some, some-injective, some-ne-none}
use lib.ListN.{get_elem?}
use Rattle.eql_turn_lock.specs.declared.history.Entry.{Entry}
use Rattle.eql_turn_lock.specs.declared.view.View.{View}
use Rattle.eql_turn_lock.specs.History.{StartsWith, calls_by}
use Rattle.eql_turn_lock.specs.Passes.{is_live, longer}
use Rattle.eql_turn_lock.specs.Rule.{live_count}
use Rattle.eql_turn_lock.proofs.Histories.{calls_append, rest_is_of_others}

module _ {A : Type 0} where
  pub in_range : (l : List A) (i : ℕ) (a : A) → get_elem? l i ≡ some a → i < length l
  in_range [] i a e = absurd (some-ne-none a (sym e))
  in_range (x ∷ xs) zero a e = omega arith
  in_range (x ∷ xs) (suc i) a e = let h = in_range xs i a e in omega arith

  pub at_some : (l : List A) (i : ℕ) → i < length l → (a : A) × (get_elem? l i ≡ some a)
  at_some [] i h = absurd (omega arith)
  at_some (x ∷ xs) zero h = (x, refl)
  at_some (x ∷ xs) (suc i) h = at_some xs i (omega arith)

  pub at_end : (l : List A) (a b : A) (j : ℕ) → get_elem? (l ++ a ∷ []) j ≡ some b → (get_elem? l j ≡ some b) ⊎ ((j ≡ length l) × (a ≡ b))
  at_end [] a b zero e = inr (refl, some-injective a b e)
  at_end [] a b (suc j) e = absurd (some-ne-none b (sym e))
  at_end (x ∷ xs) a b zero e = inl e
  at_end (x ∷ xs) a b (suc j) e = ⊎_elim (λ f. inl f) (λ (t : (j ≡ length xs) × (a ≡ b)). inr (ap suc t.0, t.1)) (at_end xs a b j e)

  abbrev tail_of : List A → List A
  tail_of [] = []
  tail_of (x ∷ xs) = xs

  abbrev head_or : A → List A → A
  head_or d [] = d
  head_or d (x ∷ xs) = x

  -- of two beginnings of one list the shorter begins the longer
  pub prefix_of : (xs ys rs qs : List A) → xs ++ rs ≡ ys ++ qs → length xs ≤ length ys → StartsWith ys xs
  prefix_of [] ys rs qs e le = (ys, refl)
  prefix_of (x ∷ xs) [] rs qs e le = absurd (omega arith)
  prefix_of (x ∷ xs) (y ∷ ys) rs qs e le = let t = prefix_of xs ys rs qs (ap tail_of e) (omega arith) in (t.0, λ i. sym (ap (head_or x) e) i ∷ t.1 i)

  pub nil_left : (xs ys : List A) → xs ++ ys ≡ [] → xs ≡ []
  nil_left [] ys e = refl
  nil_left (x ∷ xs) ys e = absurd (cc)

module _ {O R : Type 0} where
  pub calls_none : (n : ℕ) (log : List (Entry O R)) → All (λ (e : Entry O R). e.by < n) log → calls_by n log ≡ []
  calls_none n [] h = refl
  calls_none n (e ∷ es) h = let lt = All-head (λ (z : Entry O R). z.by < n) e es h in
      ap (λ (b : Bool). if b then e ∷ calls_by n es else calls_by n es) (ne_eqb e.by n (λ (is : e.by ≡ n). absurd (omega arith))) ∙ calls_none n es (All-tail (λ (z : Entry O R). z.by < n) e es h)

  -- between a beginning that has all entries of a pass and the whole, there are no more of them
  pub calls_between : (n : ℕ) (log ys xs mine : List (Entry O R)) → StartsWith log ys → StartsWith ys xs → calls_by n log ≡ mine → calls_by n xs ≡ mine → calls_by n ys ≡ mine
  calls_between n log ys xs mine a b all some_are =
      let whole = a.1 ∙ (ap (λ (l : List (Entry O R)). l ++ a.0) b.1 ∙ append_assoc xs b.0 a.0) in
      let none_are = rest_is_of_others n log xs (b.0 ++ a.0) mine whole all some_are in
      let none_first = nil_left (calls_by n b.0) (calls_by n a.0) (sym (calls_append n b.0 a.0) ∙ none_are) in
      ap (calls_by n) b.1 ∙ (calls_append n xs b.0 ∙ (ap (λ (l : List (Entry O R)). calls_by n xs ++ l) none_first ∙ (append-nil (calls_by n xs) ∙ some_are)))

  pub longer_is : (log xs ys : List (Entry O R)) → StartsWith log xs → StartsWith log ys → StartsWith (longer xs ys) xs × StartsWith (longer xs ys) ys × StartsWith log (longer xs ys)
  longer_is log xs ys a b = pick (ltb (length xs) (length ys)) (λ t. let lt = ltb-true (length xs) (length ys) t in prefix_of xs ys a.0 b.0 (sym a.1 ∙ b.1) (omega arith))
      (λ t. let le = ltb-false (length xs) (length ys) t in prefix_of ys xs b.0 a.0 (sym b.1 ∙ a.1) le)
    where
      pick : (c : Bool) → (c ≡ true → StartsWith ys xs) → (c ≡ false → StartsWith xs ys) → StartsWith (if c then ys else xs) xs × StartsWith (if c then ys else xs) ys × StartsWith log (if c then ys else xs)
      pick true f g = (f refl, ([], sym (append-nil ys)), b)
      pick false f g = (([], sym (append-nil xs)), g refl, a)

module _ {T O R : Type 0} where
  pub live_set_same : (l : List (View T O R)) (i : ℕ) (v w : View T O R) → get_elem? l i ≡ some v → is_live w ≡ is_live v → live_count (set l i w) ≡ live_count l
  live_set_same [] i v w e s = refl
  live_set_same (x ∷ xs) zero v w e s = ap (λ (b : Bool). if b then suc (live_count xs) else live_count xs) (s ∙ ap is_live (sym (some-injective x v e)))
  live_set_same (x ∷ xs) (suc i) v w e s = ap (λ (n : ℕ). if is_live x then suc n else n) (live_set_same xs i v w e s)

  pub live_set_less : (l : List (View T O R)) (i : ℕ) (v w : View T O R) → get_elem? l i ≡ some v → is_live v ≡ true → is_live w ≡ false → live_count (set l i w) + 1 ≡ live_count l
  live_set_less [] i v w e a b = absurd (some-ne-none v (sym e))
  live_set_less (x ∷ xs) zero v w e a b = let p = ap (λ (c : Bool). (if c then suc (live_count xs) else live_count xs) + 1) b in let q = ap (λ (c : Bool). if c then suc (live_count xs) else live_count xs) (ap is_live (some-injective x v e) ∙ a) in
      p ∙ ((let z : live_count xs + 1 ≡ suc (live_count xs) = omega arith in z) ∙ sym q)
  live_set_less (x ∷ xs) (suc i) v w e a b = step (is_live x) (live_set_less xs i v w e a b)
    where
      step : (c : Bool) → live_count (set xs i w) + 1 ≡ live_count xs → (if c then suc (live_count (set xs i w)) else live_count (set xs i w)) + 1 ≡ (if c then suc (live_count xs) else live_count xs)
      step true h = let m = live_count xs in omega arith
      step false h = h

  pub live_snoc : (l : List (View T O R)) (w : View T O R) → is_live w ≡ true → live_count (l ++ w ∷ []) ≡ live_count l + 1
  live_snoc [] w a = ap (λ (c : Bool). if c then suc 0 else 0) a
  live_snoc (x ∷ xs) w a = step (is_live x) (live_snoc xs w a)
    where
      step : (c : Bool) → live_count (xs ++ w ∷ []) ≡ live_count xs + 1 → (if c then suc (live_count (xs ++ w ∷ [])) else live_count (xs ++ w ∷ [])) ≡ (if c then suc (live_count xs) else live_count xs) + 1
      step true h = omega arith
      step false h = h

  pub live_zero : (l : List (View T O R)) (j : ℕ) (u : View T O R) → live_count l ≡ 0 → get_elem? l j ≡ some u → is_live u ≡ false
  live_zero [] j u z e = absurd (some-ne-none u (sym e))
  live_zero (x ∷ xs) zero u z e = ap is_live (sym (some-injective x u e)) ∙ step (is_live x) z
    where
      step : (c : Bool) → (if c then suc (live_count xs) else live_count xs) ≡ 0 → c ≡ false
      step true h = absurd (omega arith)
      step false h = refl
  live_zero (x ∷ xs) (suc j) u z e = live_zero xs j u (step (is_live x) z) e
    where
      step : (c : Bool) → (if c then suc (live_count xs) else live_count xs) ≡ 0 → live_count xs ≡ 0
      step true h = absurd (omega arith)
      step false h = h

  -- where the first alone is live, no other is
  pub live_one : (l : List (View T O R)) (j : ℕ) (v u : View T O R) → get_elem? l 0 ≡ some v → is_live v ≡ true → live_count l ≡ 1 → get_elem? l j ≡ some u → j ≢ 0 → is_live u ≡ false
  live_one [] j v u a b c e n = absurd (some-ne-none v (sym a))
  live_one (x ∷ xs) zero v u a b c e n = absurd (n refl)
  live_one (x ∷ xs) (suc j) v u a b c e n = let q = ap (λ (z : Bool). if z then suc (live_count xs) else live_count xs) (sym b ∙ ap is_live (sym (some-injective x v a))) in
      live_zero xs j u (let p : suc (live_count xs) ≡ 1 = q ∙ c in omega arith) e
