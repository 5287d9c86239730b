-- Lists that are merged in any order: what is merged and what is left has the values of the whole, and what ascends in the end is
-- the whole put in order.
use Rattle.std.proofs.Common.{◌≡◌, ◌∙◌, Bool, true, false, cond, List, [], ◌∷◌, ◌++◌, ℕ, zero, suc, ◌+◌, ◌-◌, ◌≤◌, take, drop, length, length-append, get_or, Option, Some, None, refl, sym, ap, subst, arith}
use Rattle.std.specs.Prelude.{All, ◌&&◌, ◌||◌, IsPermutation, slice_get}
use Rattle.std.specs.Option.{option_to_list}
use Rattle.std.specs.List.{find, insert, AllByRecursion, IsDistinct}
use Rattle.std.specs.List.Sorted.{IsSortedBy, IsStrictlySortedBy}
use Rattle.std.specs.Cmp.{IsTotalOrder, eq_by_cmp_equiv}
use Rattle.std.specs.Ordering.{is_lt, is_eq, eq_by_cmp, ordering_reverse}
use Rattle.std.specs.declared.cmp.Ordering.{Ordering}
use Rattle.std.specs.declared.cmp.Ordering.TheVariants.{Less, Equal, Greater}
use Rattle.std.proofs.lemmas.List.{append_assoc, append-nil, take-append-drop}
use Rattle.std.proofs.lemmas.List.Elements.{All-nil, All-cons, All-head, All-tail}
use Rattle.std.proofs.lemmas.List.Sorted.{All-permutation, IsPermutation-refl, IsPermutation-sym, IsPermutation-trans, IsPermutation-append_left, IsPermutation-append_right, IsPermutation-append_comm, length_permutation}
use Rattle.std.proofs.lemmas.Map.Keys.{apart_from_distinct, sorted_from_all_adjacent}
use Rattle.eql_laws.specs.Apart.{has_key, joined_lists}
use Rattle.eql_laws.proofs.Facts.{any_false}
use Rattle.eql_merge.specs.Ranks.{StandsFirst, Ascends, HaveNoTie, HaveNoTies, IsOfOneRank, HaveSameFirsts}
use Rattle.eql_merge.proofs.Pairs.{is_less, no_tie_tail}
use Rattle.eql_merge.proofs.Splits.{joined-append, apart_joined}

pub both_true : (a b : Bool) → (a && b) ≡ true → (a ≡ true) × (b ≡ true)
both_true true b e = (refl, e)
both_true false b e = cc

module _ {X : Type 0} where
  -- ---- lists change their places
  swap_front : (a b c : List X) → IsPermutation (a ++ (b ++ c)) (b ++ (a ++ c))
  swap_front a b c =
      subst (λ (l : List X). IsPermutation l (b ++ (a ++ c))) (append_assoc a b c)
      (subst (IsPermutation ((a ++ b) ++ c)) (append_assoc b a c) (IsPermutation-append_left c (a ++ b) (b ++ a) (IsPermutation-append_comm a b)))

  pub put_among : (run : List X) (fronts : List (List X)) (i : ℕ) → IsPermutation (run ++ joined_lists fronts) (joined_lists (insert fronts i run))
  put_among run fronts i =
      let a = joined_lists (take i fronts) in
      let b = joined_lists (drop i fronts) in
      let apart : joined_lists fronts ≡ a ++ b = sym (ap joined_lists (take-append-drop i fronts)) ∙ joined-append (take i fronts) (drop i fronts) in
      let among : joined_lists (insert fronts i run) ≡ a ++ (run ++ b) = joined-append (take i fronts) (run ∷ drop i fronts) in
      subst (λ (l : List X). IsPermutation (run ++ l) (joined_lists (insert fronts i run))) (sym apart)
      (subst (IsPermutation (run ++ (a ++ b))) (sym among) (swap_front run a b))

  -- a list went from those that wait to the fronts
  pub moved_over : (whole : List X) (lists rest fronts new : List (List X)) (run : List X) → lists ≡ run ∷ rest → IsPermutation whole (joined_lists lists ++ joined_lists fronts)
      → IsPermutation (run ++ joined_lists fronts) (joined_lists new) → IsPermutation whole (joined_lists rest ++ joined_lists new)
  moved_over whole lists rest fronts new run e h put =
      let here : IsPermutation whole (run ++ (joined_lists rest ++ joined_lists fronts))
      = subst (IsPermutation whole) (ap (λ (l : List (List X)). joined_lists l ++ joined_lists fronts) e ∙ append_assoc run (joined_lists rest) (joined_lists fronts)) h in
      IsPermutation-trans _ _ _ here
      (IsPermutation-trans _ _ _ (swap_front run (joined_lists rest) (joined_lists fronts)) (IsPermutation-append_right (joined_lists rest) (run ++ joined_lists fronts) (joined_lists new) put))

  -- the first value of a list was taken, and the list went to its place among the others
  pub one_taken : (o : Option X) (front run : List X) (old new : List (List X)) → front ≡ option_to_list o ++ run → IsPermutation (run ++ joined_lists old) (joined_lists new)
      → IsPermutation (front ++ joined_lists old) (option_to_list o ++ joined_lists new)
  one_taken o front run old new e put =
      subst (λ (l : List X). IsPermutation (l ++ joined_lists old) (option_to_list o ++ joined_lists new)) (sym e)
      (subst (λ (l : List X). IsPermutation l (option_to_list o ++ joined_lists new)) (sym (append_assoc (option_to_list o) run (joined_lists old)))
      (IsPermutation-append_right (option_to_list o) (run ++ joined_lists old) (joined_lists new) put))

  pub none_taken : (front run : List X) (old : List (List X)) → front ≡ [] ++ run → front ≡ [] → IsPermutation (front ++ joined_lists old) (joined_lists old)
  none_taken front run old e none = subst (λ (l : List X). IsPermutation (l ++ joined_lists old) (joined_lists old)) (sym none) (IsPermutation-refl (joined_lists old))

  pub fewer_taken : (x : X) (front run : List X) (old new : List (List X)) → front ≡ x ∷ run → IsPermutation (run ++ joined_lists old) (joined_lists new) → length new ≤ length old + 1
      → length (joined_lists new) + length new ≤ length front + length (joined_lists old) + length old
  fewer_taken x front run old new e put few =
      let long = length_permutation (run ++ joined_lists old) (joined_lists new) put in
      let parts = length-append run (joined_lists old) in
      let one : length front ≡ suc (length run) = ap length e in
      omega (arith, long, parts, one, few)

  pub as_before : (whole merged front : List X) (fronts rest new : List (List X)) → fronts ≡ front ∷ rest → IsPermutation whole (merged ++ joined_lists fronts)
      → IsPermutation (front ++ joined_lists rest) (joined_lists new) → IsPermutation whole (merged ++ joined_lists new)
  as_before whole merged front fronts rest new e h taken =
      IsPermutation-trans _ _ _ (subst (λ (l : List (List X)). IsPermutation whole (merged ++ joined_lists l)) e h)
      (IsPermutation-append_right merged (front ++ joined_lists rest) (joined_lists new) taken)

  pub one_more : (whole merged front : List X) (x : X) (fronts rest new : List (List X)) → fronts ≡ front ∷ rest → IsPermutation whole (merged ++ joined_lists fronts)
      → IsPermutation (front ++ joined_lists rest) (x ∷ joined_lists new) → IsPermutation whole ((merged ++ x ∷ []) ++ joined_lists new)
  one_more whole merged front x fronts rest new e h taken =
      subst (IsPermutation whole) (sym (append_assoc merged (x ∷ []) (joined_lists new)))
      (IsPermutation-trans _ _ _ (subst (λ (l : List (List X)). IsPermutation whole (merged ++ joined_lists l)) e h)
      (IsPermutation-append_right merged (front ++ joined_lists rest) (x ∷ joined_lists new) taken))

  pub nothing_left : (whole merged : List X) (fronts : List (List X)) → fronts ≡ [] → IsPermutation whole (merged ++ joined_lists fronts) → IsPermutation whole merged
  nothing_left whole merged fronts none h =
      subst (IsPermutation whole) (append-nil merged) (subst (λ (l : List (List X)). IsPermutation whole (merged ++ joined_lists l)) none h)

  -- ---- what a test finds in a list of which one value at most passes
  all_fail : (test : X → Bool) (xs : List X) → find test xs ≡ None → All (λ (y : X). test y ≡ false) xs
  all_fail test [] none = All-nil (λ (y : X). test y ≡ false)
  all_fail test (x ∷ xs) none = go (test x) refl none (all_fail test xs)
    where
      go : (b : Bool) → test x ≡ b → cond b (Some x) (find test xs) ≡ None → (find test xs ≡ None → All (λ (y : X). test y ≡ false) xs) → All (λ (y : X). test y ≡ false) (x ∷ xs)
      go true e none rest = cc
      go false e none rest = All-cons (λ (y : X). test y ≡ false) x xs e (rest none)

  none_passes : (test : X → Bool) (ys : List X) → All (λ (y : X). test y ≡ false) ys → find test ys ≡ None
  none_passes test [] h = refl
  none_passes test (y ∷ ys) h =
      let P : X → Type 0 = λ (z : X). test z ≡ false in
      ap (λ (b : Bool). cond b (Some y) (find test ys)) (All-head P y ys h) ∙ none_passes test ys (All-tail P y ys h)

  -- what is found is of the list, and passes
  found_is : (test : X → Bool) (P : X → Type 0) (ys : List X) (y : X) → All P ys → find test ys ≡ Some y → P y × (test y ≡ true)
  found_is test P [] y h e = cc
  found_is test P (z ∷ ys) y h e = go (test z) refl e (found_is test P ys y (All-tail P z ys h))
    where
      go : (b : Bool) → test z ≡ b → cond b (Some z) (find test ys) ≡ Some y → (find test ys ≡ Some y → P y × (test y ≡ true)) → P y × (test y ≡ true)
      go true t e rest = let same : z ≡ y = cc in (subst P same (All-head P z ys h), ap test (sym same) ∙ t)
      go false t e rest = rest e

  -- ---- the last value
  no_last : (m : List X) (n : ℕ) → slice_get m n ≡ None → length m ≤ n
  no_last [] n e = omega arith
  no_last (x ∷ m) zero e = cc
  no_last (x ∷ m) (suc n) e = let rest = no_last m n e in omega (arith, rest)

  before_one : (R : X → X → Ordering) (y : X) (m : List X) (n : ℕ) (z : X) → StandsFirst R y m → slice_get m n ≡ Some z → R y z ≡ Less
  before_one R y [] n z h e = cc
  before_one R y (x ∷ m) zero z h e = let same : x ≡ z = cc in ap (R y) (sym same) ∙ h.0
  before_one R y (x ∷ m) (suc n) z h e = before_one R y m n z h.1 e

module _ {X : Type 0} (R : X → X → Ordering) (total : IsTotalOrder R) where
  -- ---- no two values of the whole are of one rank
  none_there : (k : X) (ys : List X) → has_key R (λ (x : X). x) k ys ≡ false → AllByRecursion (λ (y : X). eq_by_cmp R k y ≡ false) ys
  none_there k [] h = tt
  none_there k (y ∷ ys) h = let both = any_false (eq_by_cmp R k y) (has_key R (λ (x : X). x) k ys) h in (both.0, none_there k ys both.1)

  apart_all : (x : X) (xs ys : List X) → StandsFirst R x xs → AllByRecursion (λ (y : X). eq_by_cmp R x y ≡ false) ys → AllByRecursion (λ (y : X). eq_by_cmp R x y ≡ false) (xs ++ ys)
  apart_all x [] ys h rest = rest
  apart_all x (y ∷ xs) ys h rest = (ap is_eq h.0, apart_all x xs ys h.1 rest)

  distinct_with : (xs ys : List X) → Ascends R xs → HaveNoTie R xs ys → IsDistinct (eq_by_cmp R) ys → IsDistinct (eq_by_cmp R) (xs ++ ys)
  unfolding IsDistinct
  distinct_with [] ys up apart h = h
  distinct_with (x ∷ xs) ys up apart h =
      let here : has_key R (λ (y : X). y) x (x ∷ xs) ≡ true = ap (λ (c : Bool). c || has_key R (λ (y : X). y) x xs) ((eq_by_cmp_equiv total).refl x) in
      (apart_all x xs ys up.0 (none_there x ys (apart x here)), distinct_with xs ys up.1 (no_tie_tail R x xs ys apart) h)

  pub distinct_joined : (lists : List (List X)) → All (Ascends R) lists → HaveNoTies R lists → IsDistinct (eq_by_cmp R) (joined_lists lists)
  unfolding IsDistinct
  distinct_joined [] up apart = tt
  distinct_joined (xs ∷ lists) up apart =
      distinct_with xs (joined_lists lists) (All-head (Ascends R) xs lists up) (apart_joined R xs lists apart.0) (distinct_joined lists (All-tail (Ascends R) xs lists up) apart.1)

  -- ---- so a test of one rank finds the same in every order
  one_passes : (test : X → Bool) → IsOfOneRank R test → (xs : List X) (x : X) → IsDistinct (eq_by_cmp R) xs → find test xs ≡ Some x → All (λ (y : X). test y ≡ true → y ≡ x) xs
  unfolding IsDistinct
  one_passes test one [] x apart e = cc
  one_passes test one (z ∷ xs) x apart e = go (test z) refl e (one_passes test one xs x apart.1)
    where
      P : X → Type 0
      P y = test y ≡ true → y ≡ x

      others : (ys : List X) → test z ≡ true → AllByRecursion (λ (y : X). eq_by_cmp R z y ≡ false) ys → All (λ (y : X). test y ≡ true → y ≡ z) ys
      others [] t h = All-nil (λ (y : X). test y ≡ true → y ≡ z)
      others (y ∷ ys) t h = All-cons (λ (y : X). test y ≡ true → y ≡ z) y ys (λ u. let tie : eq_by_cmp R z y ≡ true = ap is_eq (one z y t u) in cc) (others ys t h.1)

      go : (b : Bool) → test z ≡ b → cond b (Some z) (find test xs) ≡ Some x → (find test xs ≡ Some x → All (λ (y : X). test y ≡ true → y ≡ x) xs) → All P (z ∷ xs)
      go true t e rest =
          let same : z ≡ x = cc in
          All-cons P z xs (λ u. same) (subst (λ (v : X). All (λ (y : X). test y ≡ true → y ≡ v) xs) same (others xs t apart.0))
      go false t e rest = All-cons P z xs (λ u. let no : true ≡ false = sym u ∙ t in cc) (rest e)

  pub same_firsts : (xs ys : List X) → IsDistinct (eq_by_cmp R) xs → IsPermutation xs ys → HaveSameFirsts R xs ys
  same_firsts xs ys apart moved test one = go (find test xs) refl
    where
      F : X → Type 0
      F y = test y ≡ false

      back : find test ys ≡ None → find test xs ≡ None
      back none = none_passes test xs (All-permutation F ys xs (IsPermutation-sym xs ys moved) (all_fail test ys none))

      go : (o : Option X) → find test xs ≡ o → find test xs ≡ find test ys
      go None e = e ∙ sym (none_passes test ys (All-permutation F xs ys moved (all_fail test xs e)))
      go (Some x) e = on (find test ys) refl
        where
          P : X → Type 0
          P y = test y ≡ true → y ≡ x

          on : (p : Option X) → find test ys ≡ p → find test xs ≡ find test ys
          on None f = let no = back f in cc
          on (Some y) f =
              let found = found_is test P ys y (All-permutation P xs ys moved (one_passes test one xs x apart e)) f in
              let same : y ≡ x = found.0 found.1 in
              e ∙ ap (λ (z : X). Some z) (sym same) ∙ sym f

  -- ---- what is put behind the last value, and what is sorted, ascends
  first_more : (y : X) (m : List X) (x : X) → StandsFirst R y m → R y x ≡ Less → StandsFirst R y (m ++ x ∷ [])
  first_more y [] x h lt = (lt, tt)
  first_more y (w ∷ m) x h lt = (h.0, first_more y m x h.1 lt)

  ascends_more : (m : List X) (n : ℕ) (z x : X) → length m ≡ n + 1 → slice_get m n ≡ Some z → R z x ≡ Less → Ascends R m → Ascends R (m ++ x ∷ [])
  ascends_more [] n z x long e lt up = absurd (omega arith)
  ascends_more (y ∷ []) zero z x long e lt up = let same : y ≡ z = cc in ((ap (λ (w : X). R w x) same ∙ lt, tt), (tt, tt))
  ascends_more (y ∷ []) (suc n) z x long e lt up = absurd (omega arith)
  ascends_more (y ∷ w ∷ m) zero z x long e lt up = absurd (omega arith)
  ascends_more (y ∷ w ∷ m) (suc n) z x long e lt up =
      (first_more y (w ∷ m) x up.0 (total.trans y z x (before_one R y (w ∷ m) n z up.0 e) lt), ascends_more (w ∷ m) n z x (omega (arith, long)) e lt up.1)

  pub first_of_all : (m : List X) (x : X) → slice_get m (length m - 1) ≡ None → Ascends R (m ++ x ∷ [])
  first_of_all [] x e = (tt, tt)
  first_of_all (y ∷ m) x e = let few = no_last (y ∷ m) (length (y ∷ m) - 1) e in absurd (omega (arith, few))

  pub behind_last : (m : List X) (z x : X) → slice_get m (length m - 1) ≡ Some z → is_lt (R z x) ≡ true → Ascends R m → Ascends R (m ++ x ∷ [])
  behind_last [] z x e lt up = cc
  behind_last (y ∷ m) z x e lt up = ascends_more (y ∷ m) (length (y ∷ m) - 1) z x (omega arith) e (is_less R total (R z x) lt) up

  in_turn : (o back : Ordering) → o ≡ ordering_reverse back → is_lt back ≡ false → is_eq o ≡ false → o ≡ Less
  in_turn Less back e late apart = refl
  in_turn Equal back e late apart = cc
  in_turn Greater Less e late apart = cc
  in_turn Greater Equal e late apart = cc
  in_turn Greater Greater e late apart = cc

  behind_all : (x : X) (xs : List X) → AllByRecursion (λ (y : X). R x y ≡ Less) xs → StandsFirst R x xs
  behind_all x [] h = tt
  behind_all x (y ∷ xs) h = (h.0, behind_all x xs h.1)

  strict_ascends : (xs : List X) → IsStrictlySortedBy R xs → Ascends R xs
  unfolding IsStrictlySortedBy
  strict_ascends [] h = tt
  strict_ascends (x ∷ xs) h = (behind_all x xs h.0, strict_ascends xs h.1)

  pub sorted_ascends : (xs : List X) → IsDistinct (eq_by_cmp R) xs → IsSortedBy (λ x y. is_lt (R x y)) xs → Ascends R xs
  sorted_ascends [] apart sorted = tt
  sorted_ascends (x ∷ xs) apart sorted =
      let all = x ∷ xs in
      strict_ascends all
      (sorted_from_all_adjacent total all x (λ k lt.
      in_turn (R (get_or all k x) (get_or all (k + 1) x)) (R (get_or all (k + 1) x) (get_or all k x))
      (total.antisymm (get_or all k x) (get_or all (k + 1) x))
      (sorted k x (omega arith) (omega (arith, lt)))
      (apart_from_distinct (eq_by_cmp R) all k (k + 1) x apart (omega arith) lt)))
