-- The first of many lists merged, and put behind the others.
use Rattle.std.proofs.Common.{◌≡◌, ◌∙◌, Bool, true, false, cond, List, [], ◌∷◌, ◌++◌, ℕ, suc, ◌≤◌, take, drop, length, Option, Some, None, refl, sym, ap, subst, arith}
use Rattle.std.specs.Prelude.{All, ◌||◌}
use Rattle.std.specs.List.{find}
use Rattle.std.specs.Cmp.{IsTotalOrder, eq_by_cmp_equiv}
use Rattle.std.specs.Ordering.{is_eq, eq_by_cmp}
use Rattle.std.specs.declared.cmp.Ordering.{Ordering}
use Rattle.std.specs.declared.cmp.Ordering.TheVariants.{Equal}
use Rattle.std.proofs.lemmas.List.{append-nil, take-append-drop}
use Rattle.std.proofs.lemmas.List.Elements.{All-push}
use Rattle.eql_values.specs.Ordered.{found_or}
use Rattle.eql_laws.specs.Apart.{joined_lists}
use Rattle.eql_laws.proofs.Facts.{any_false, is_equal}
use Rattle.eql_merge.specs.Ranks.{Ascends, HaveNoTie, HaveNoTies, IsOfOneRank, HaveSameFirsts}
use Rattle.eql_merge.proofs.Splits.{joined-append, has, has-append, NoTieWith, find-both, parts_stand, merged_apart}

found_none : {Y : Type 0} (o : Option Y) → found_or o None ≡ o
found_none None = refl
found_none (Some x) = refl

-- two lists alone
pub two_joined : {X : Type 0} (lists : List (List X)) (a b : List X) (l r : List (List X)) → lists ≡ a ∷ l → l ≡ b ∷ r → length lists ≤ 2 → joined_lists lists ≡ a ++ b
two_joined {X} lists a b l [] e f few = ap joined_lists (e ∙ ap (λ (k : List (List X)). a ∷ k) f) ∙ ap (λ (k : List X). a ++ k) (append-nil b)
two_joined lists a b l (x ∷ r) e f few =
    let whole : length lists ≡ suc (length l) = ap length e in
    let rest : length l ≡ suc (suc (length r)) = ap length f in
    absurd (omega (arith, whole, rest, few))

module _ {X : Type 0} (R : X → X → Ordering) where
  -- ---- what has no ties
  no_tie_back : (a b : List X) → HaveNoTie R a b → HaveNoTie R b a
  no_tie_back a b h k there = go (has R k a) refl
    where
      go : (c : Bool) → has R k a ≡ c → c ≡ false
      go true e = let none : has R k b ≡ false = h k e in cc
      go false e = refl

  no_tie_parts : (m x ys : List X) → HaveNoTie R m (x ++ ys) → HaveNoTie R m x × HaveNoTie R m ys
  no_tie_parts m x ys h = (
    λ k there. (any_false (has R k x) (has R k ys) (sym (has-append R k x ys) ∙ h k there)).0,
    λ k there. (any_false (has R k x) (has R k ys) (sym (has-append R k x ys) ∙ h k there)).1,
  )

  module _ (total : IsTotalOrder R) where
    -- ---- a list that moves behind others changes no first value
    found_passes : (test : X → Bool) (xs : List X) (u : X) → find test xs ≡ Some u → test u ≡ true
    found_passes test [] u e = cc
    found_passes test (y ∷ xs) u e = go (test y) refl (found_passes test xs u) e
      where
        go : (b : Bool) → test y ≡ b → (find test xs ≡ Some u → test u ≡ true) → cond b (Some y) (find test xs) ≡ Some u → test u ≡ true
        go true is later e = let same : y ≡ u = cc in ap test (sym same) ∙ is
        go false is later e = later e

    found_has : (test : X → Bool) (xs : List X) (u k : X) → R k u ≡ Equal → find test xs ≡ Some u → has R k xs ≡ true
    found_has test [] u k tie e = cc
    found_has test (y ∷ xs) u k tie e = go (test y) (found_has test xs u k tie) e
      where
        pass : (b c : Bool) → c ≡ true → (b || c) ≡ true
        pass true c e = refl
        pass false c e = e

        go : (b : Bool) → (find test xs ≡ Some u → has R k xs ≡ true) → cond b (Some y) (find test xs) ≡ Some u → (eq_by_cmp R k y || has R k xs) ≡ true
        go true later e = let same : y ≡ u = cc in ap (λ (c : Bool). c || has R k xs) (ap (eq_by_cmp R k) same ∙ ap is_eq tie)
        go false later e = pass (eq_by_cmp R k y) (has R k xs) (later e)

    swapped : (test : X → Bool) → IsOfOneRank R test → (x a : List X) → HaveNoTie R x a → (o : Option X)
        → found_or (find test x) (found_or (find test a) o) ≡ found_or (find test a) (found_or (find test x) o)
    swapped test one x a apart o = go (find test x) (find test a) refl refl
      where
        go : (p q : Option X) → find test x ≡ p → find test a ≡ q → found_or p (found_or q o) ≡ found_or q (found_or p o)
        go None q e f = refl
        go (Some u) None e f = refl
        go (Some u) (Some v) e f =
            let tie : R u v ≡ Equal = one u v (found_passes test x u e) (found_passes test a v f) in
            let here : has R u x ≡ true = found_has test x u u (is_equal (R u u) ((eq_by_cmp_equiv total).refl u)) e in
            let there : has R u a ≡ true = found_has test a v u tie f in
            let none : has R u a ≡ false = apart u here in
            cc

    -- ---- the first of many lists merged, and put behind the others
    others_end : (q m : List X) (b : List (List X)) → NoTieWith R q b → HaveNoTie R q m → NoTieWith R q (b ++ m ∷ [])
    others_end q m [] h one = (one, tt)
    others_end q m (x ∷ b) h one = (h.0, others_end q m b h.1 one)

    ties_end : (b : List (List X)) (m : List X) → HaveNoTies R b → HaveNoTie R m (joined_lists b) → HaveNoTies R (b ++ m ∷ [])
    ties_end [] m h g = (tt, tt)
    ties_end (x ∷ b) m h g =
        let parts = no_tie_parts m x (joined_lists b) g in
        (others_end x m b h.0 (no_tie_back m x parts.0), ties_end b m h.1 parts.1)

    pub record FirstMerged (lists rest : List (List X)) : Type 0 where
      pub ascend : All (Ascends R) rest
      pub apart : HaveNoTies R rest
      pub firsts : HaveSameFirsts R (joined_lists lists) (joined_lists rest)

    firsts_end : (a b : List (List X)) (m : List X) → HaveNoTie R (joined_lists a) (joined_lists b) → HaveSameFirsts R (joined_lists a) m → HaveSameFirsts R (joined_lists (a ++ b)) (joined_lists (b ++ m ∷ []))
    firsts_end a b m apart same test one =
        ap (find test) (joined-append a b)
        ∙ find-both R test (joined_lists a) (joined_lists b)
        ∙ ap (found_or (find test (joined_lists a))) (sym (found_none (find test (joined_lists b))))
        ∙ swapped test one (joined_lists a) (joined_lists b) apart None
        ∙ ap (found_or (find test (joined_lists b))) (found_none (find test (joined_lists a)) ∙ same test one)
        ∙ sym (find-both R test (joined_lists b) m)
        ∙ ap (λ (l : List X). find test (joined_lists b ++ l)) (sym (append-nil m))
        ∙ ap (find test) (sym (joined-append b (m ∷ [])))

    first_merged : (n : ℕ) (lists : List (List X)) (m : List X) → All (Ascends R) lists → HaveNoTies R lists → Ascends R m → HaveSameFirsts R (joined_lists (take n lists)) m
        → FirstMerged lists (drop n lists ++ m ∷ [])
    first_merged n lists m ups apart up same =
        let stand = parts_stand R n lists ups apart in
        let a = take n lists in
        let b = drop n lists in
        record {
          ascend = All-push (Ascends R) b m stand.later_ascend up;
          apart = ties_end b m stand.apart.later (merged_apart R total (joined_lists a) (joined_lists b) m (joined_lists b) stand.apart.both same (λ test one. refl));
          firsts = λ test one. ap (λ (l : List (List X)). find test (joined_lists l)) (sym (take-append-drop n lists)) ∙ firsts_end a b m stand.apart.both same test one;
        }

    pub first_put : (n : ℕ) (lists first rest new : List (List X)) (m run : List X) → All (Ascends R) lists → HaveNoTies R lists → Ascends R m → HaveSameFirsts R (joined_lists first) m
        → first ≡ take n lists → rest ≡ drop n lists → run ≡ m → new ≡ rest ++ run ∷ [] → FirstMerged lists new
    first_put n lists first rest new m run ups apart up same first_is rest_is run_is new_is =
        let is : new ≡ drop n lists ++ m ∷ [] = new_is ∙ ap (λ (k : List X). rest ++ k ∷ []) run_is ∙ ap (λ (l : List (List X)). l ++ m ∷ []) rest_is in
        subst (FirstMerged lists) (sym is) (first_merged n lists m ups apart up (subst (λ (l : List (List X)). HaveSameFirsts R (joined_lists l) m) first_is same))
