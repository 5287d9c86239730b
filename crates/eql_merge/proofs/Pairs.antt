-- The first value of two lists that ascend is the first of all.
use Rattle.std.proofs.Common.{◌≡◌, ◌∙◌, Bool, true, false, cond, List, [], ◌∷◌, ◌++◌, Option, Some, None, refl, sym, ap, subst, append_assoc}
use Rattle.std.specs.Prelude.{◌||◌, IfSome}
use Rattle.std.specs.Option.{option_to_list}
use Rattle.std.specs.List.{find}
use Rattle.std.specs.Cmp.{IsTotalOrder, eq_by_cmp_equiv}
use Rattle.std.specs.Ordering.{is_lt, is_eq, eq_by_cmp, ordering_reverse}
use Rattle.std.specs.declared.cmp.Ordering.{Ordering}
use Rattle.std.specs.declared.cmp.Ordering.TheVariants.{Less, Equal, Greater}
use Rattle.std.proofs.lemmas.List.{append-nil}
use Rattle.eql_laws.specs.Apart.{has_key}
use Rattle.eql_laws.proofs.Facts.{any_false}
use Rattle.eql_merge.specs.Ranks.{StandsFirst, Ascends, HaveNoTie, IsOfOneRank, HaveSameFirsts}
use Rattle.eql_merge.specs.Fronts.{later_is_first, TakesFrom, TakesFirst}

module _ {X : Type 0} (R : X → X → Ordering) where
  -- the first value was taken out of the one list or of the other
  pub later_taken : (earlier later later' : List X) (o : Option X) → later_is_first R earlier later ≡ true → later ≡ option_to_list o ++ later'
      → IfSome o (λ x. TakesFirst R x earlier later earlier later')
  later_taken earlier later later' None least e = tt
  later_taken earlier later later' (Some x) least e = subst (λ (b : Bool). TakesFrom b x earlier later earlier later') (sym least) (e, refl)

  pub earlier_taken : (earlier later earlier' : List X) (o : Option X) → later_is_first R earlier later ≡ false → earlier ≡ option_to_list o ++ earlier'
      → IfSome o (λ x. TakesFirst R x earlier later earlier' later)
  earlier_taken earlier later earlier' None least e = tt
  earlier_taken earlier later earlier' (Some x) least e = subst (λ (b : Bool). TakesFrom b x earlier later earlier' later) (sym least) (e, refl)

  -- what was merged so far, and the two lists that are left of a whole
  pub record MergesOn (whole merged left right : List X) : Type 0 where
    pub left_ascends : Ascends R (merged ++ left)
    pub right_ascends : Ascends R (merged ++ right)
    pub apart : HaveNoTie R left right
    pub firsts : HaveSameFirsts R whole (merged ++ (left ++ right))

  pub find_front : (test : X → Bool) (m xs ys : List X) → find test xs ≡ find test ys → find test (m ++ xs) ≡ find test (m ++ ys)
  find_front test [] xs ys e = e
  find_front test (x ∷ m) xs ys e = ap (λ (o : Option X). cond (test x) (Some x) o) (find_front test m xs ys e)

  pub begin : (left right : List X) → Ascends R left → Ascends R right → HaveNoTie R left right → MergesOn (left ++ right) [] left right
  begin left right p q apart = record { left_ascends = p; right_ascends = q; apart = apart; firsts = λ test one. refl }

  pub ended : (whole merged : List X) → MergesOn whole merged [] [] → Ascends R merged × HaveSameFirsts R whole merged
  ended whole merged on = (
    subst (Ascends R) (append-nil merged) on.left_ascends,
    λ test one. on.firsts test one ∙ ap (find test) (append-nil merged),
  )

  pub last_part : (m xs : List X) → Ascends R (m ++ xs) → Ascends R xs
  last_part [] xs h = h
  last_part (x ∷ m) xs h = last_part m xs h.1

  pub first_with : (y x : X) (m l r : List X) → StandsFirst R y (m ++ l) → StandsFirst R y (m ++ x ∷ r) → StandsFirst R y (m ++ x ∷ l)
  first_with y x [] l r p q = (q.0, p)
  first_with y x (z ∷ m) l r p q = (p.0, first_with y x m l r p.1 q.1)

  -- a value that stands behind what was merged and before a list
  pub ascends_with : (m : List X) (x : X) (l r : List X) → Ascends R (m ++ l) → Ascends R (m ++ x ∷ r) → StandsFirst R x l → Ascends R (m ++ x ∷ l)
  ascends_with [] x l r p q first = (first, p)
  ascends_with (y ∷ m) x l r p q first = (first_with y x m l r p.0 q.0, ascends_with m x l r p.1 q.1 first)

  pub one_on : (m : List X) (x : X) (l : List X) → m ++ x ∷ l ≡ (m ++ x ∷ []) ++ l
  one_on m x l = sym (append_assoc m (x ∷ []) l)

  pub no_tie_tail : (x : X) (l r : List X) → HaveNoTie R (x ∷ l) r → HaveNoTie R l r
  no_tie_tail x l r apart k there = apart k (pass (eq_by_cmp R k x) (has_key R (λ (y : X). y) k l) there)
    where
      pass : (a b : Bool) → b ≡ true → (a || b) ≡ true
      pass true b e = refl
      pass false b e = e

  no_tie_right : (l : List X) (x : X) (r : List X) → HaveNoTie R l (x ∷ r) → HaveNoTie R l r
  no_tie_right l x r apart k there = (any_false (eq_by_cmp R k x) (has_key R (λ (y : X). y) k r) (apart k there)).1

  module _ (total : IsTotalOrder R) where
    first_on : (x y : X) (ys : List X) → R x y ≡ Less → StandsFirst R y ys → StandsFirst R x ys
    first_on x y [] lt h = tt
    first_on x y (z ∷ ys) lt h = (total.trans x y z lt h.0, first_on x y ys lt h.1)

    pub is_less : (o : Ordering) → is_lt o ≡ true → o ≡ Less
    is_less Less e = refl
    is_less Equal e = cc
    is_less Greater e = cc

    less_of : (o : Ordering) → is_lt (ordering_reverse o) ≡ false → is_eq o ≡ false → o ≡ Less
    less_of Less a b = refl
    less_of Equal a b = cc
    less_of Greater a b = cc

    -- the first of the later list comes before the earlier one
    pub later_first : (l : List X) (x : X) (r : List X) → Ascends R l → later_is_first R l (x ∷ r) ≡ true → StandsFirst R x l
    later_first [] x r up least = tt
    later_first (a ∷ l) x r up least = let lt = is_less (R x a) least in (lt, first_on x a l lt up.0)

    -- and that of the earlier list before the later one
    pub earlier_first : (x : X) (l r : List X) → Ascends R r → HaveNoTie R (x ∷ l) r → later_is_first R (x ∷ l) r ≡ false → StandsFirst R x r
    earlier_first x l [] up apart least = tt
    earlier_first x l (b ∷ r) up apart least =
        let here : has_key R (λ (y : X). y) x (x ∷ l) ≡ true = ap (λ (c : Bool). c || has_key R (λ (y : X). y) x l) ((eq_by_cmp_equiv total).refl x) in
        let lt = less_of (R x b) (ap is_lt (sym (total.antisymm b x)) ∙ least) (any_false (eq_by_cmp R x b) (has_key R (λ (y : X). y) x r) (apart x here)).0 in
        (lt, first_on x b r lt up.0)

    -- a test of one rank finds a value before the lesser ones or after them
    swap_first : (test : X → Bool) → IsOfOneRank R test → (x y : X) → R x y ≡ Less → (a b : Bool) → test x ≡ a → test y ≡ b → (o : Option X)
        → cond b (Some y) (cond a (Some x) o) ≡ cond a (Some x) (cond b (Some y) o)
    swap_first test one x y lt true true e f o = let tie : Equal ≡ Less = sym (one x y e f) ∙ lt in cc
    swap_first test one x y lt true false e f o = refl
    swap_first test one x y lt false true e f o = refl
    swap_first test one x y lt false false e f o = refl

    find_first : (test : X → Bool) → IsOfOneRank R test → (l : List X) (x : X) (r : List X) → StandsFirst R x l → find test (l ++ x ∷ r) ≡ find test (x ∷ (l ++ r))
    find_first test one [] x r first = refl
    find_first test one (y ∷ l) x r first =
        ap (λ (o : Option X). cond (test y) (Some y) o) (find_first test one l x r first.1)
        ∙ swap_first test one x y first.0 (test x) (test y) refl refl (find test (l ++ r))

    from_later : (whole m l : List X) (x : X) (r : List X) → later_is_first R l (x ∷ r) ≡ true → MergesOn whole m l (x ∷ r) → MergesOn whole (m ++ x ∷ []) l r
    from_later whole m l x r least on =
        let first = later_first l x r (last_part m l on.left_ascends) least in
        record {
          left_ascends = subst (Ascends R) (one_on m x l) (ascends_with m x l r on.left_ascends on.right_ascends first);
          right_ascends = subst (Ascends R) (one_on m x r) on.right_ascends;
          apart = no_tie_right l x r on.apart;
          firsts = λ test one.
              on.firsts test one ∙ find_front test m (l ++ x ∷ r) (x ∷ (l ++ r)) (find_first test one l x r first) ∙ ap (find test) (one_on m x (l ++ r));
        }

    from_earlier : (whole m : List X) (x : X) (l r : List X) → later_is_first R (x ∷ l) r ≡ false → MergesOn whole m (x ∷ l) r → MergesOn whole (m ++ x ∷ []) l r
    from_earlier whole m x l r least on =
        let first = earlier_first x l r (last_part m r on.right_ascends) on.apart least in
        record {
          left_ascends = subst (Ascends R) (one_on m x l) on.left_ascends;
          right_ascends = subst (Ascends R) (one_on m x r) (ascends_with m x r l on.right_ascends on.left_ascends first);
          apart = no_tie_tail x l r on.apart;
          firsts = λ test one. on.firsts test one ∙ ap (find test) (one_on m x (l ++ r));
        }

    by_first : (b : Bool) (x : X) (whole m l r l' r' : List X) → later_is_first R l r ≡ b → TakesFrom b x l r l' r' → MergesOn whole m l r → MergesOn whole (m ++ x ∷ []) l' r'
    by_first true x whole m l r l' r' least takes on =
        subst (λ (k : List X). MergesOn whole (m ++ x ∷ []) k r') takes.1
        (from_later whole m l x r' (subst (λ (k : List X). later_is_first R l k ≡ true) takes.0 least) (subst (MergesOn whole m l) takes.0 on))
    by_first false x whole m l r l' r' least takes on =
        subst (MergesOn whole (m ++ x ∷ []) l') takes.1
        (from_earlier whole m x l' r (subst (λ (k : List X). later_is_first R k r ≡ false) takes.0 least) (subst (λ (k : List X). MergesOn whole m k r) takes.0 on))

    pub one_more : (x : X) (whole m l r l' r' : List X) → TakesFirst R x l r l' r' → MergesOn whole m l r → MergesOn whole (m ++ x ∷ []) l' r'
    one_more x whole m l r l' r' takes on = by_first (later_is_first R l r) x whole m l r l' r' refl takes on
