-- What is done with all locks of a row, when some were walked.
use Rattle.std.proofs.Common.{◌≡◌, ℕ, suc, ◌+◌, ◌<◌, ◌≤◌, Bool, List, [], ◌∷◌, ◌++◌, Some, length, map, take, drop, reverse, refl, sym, ap, ◌∙◌, subst, arith, append_assoc, length-append}
use Rattle.std.specs.Prelude.{slice_get, slice_set}
use Rattle.std.specs.List.{AllZip}
use Rattle.std.proofs.lemmas.List.{append-nil, length-map, length-take, map-append, reverse-append}
use Rattle.std.proofs.lemmas.List.Elements.{All-cons, All-nil, All-push}
use Rattle.atomic_table.specs.Seated.{TableId}
use Rattle.eql_turn_lock.specs.declared.turned.Turned.{Ghosts}
use Rattle.eql_turn_lock.specs.declared.lock.TurnLock.{TurnLock}
use Rattle.eql_turn_lock.specs.declared.lock.Pass.{Pass}
use Rattle.eql_turn_lock.specs.declared.view.View.{View}
use Rattle.eql_turn_lock.specs.Calls.{Closes}
use Rattle.eql_turn_lock.specs.History.{IsLegal, StartsWith}
use Rattle.eql_turn_lock.specs.declared.history.Entry.{Entry}
use Rattle.eql_turn_lock.specs.Locks.{IsPassOf, view_of}
use Rattle.eql_turn_lock.specs.Passes.{KnowsHistory, first_view, joined_view, new_view, split_view}
use Rattle.eql_lock_row.specs.Rows.{AllKnow, AreOf, id_of_lock, id_of_pass, ids_in, joined_views, views_in}
use Rattle.eql_lock_row.proofs.Places.{all_at, all_set, back_get, back_set, drop_all, drop_at, front_get, front_set, last_of, map_get, map_set, reverse_one, same_at, set_same, take_all, take_more}

take_short : {X : Type 0} (k : ℕ) (xs : List X) → length (take k xs) ≤ k
take_short k xs = let h = length-take k xs in omega (arith, h)

module _ {T O R : Type 0} (step_of : T → O → R → T → Type 0) (is_open : O → Bool) where
  none_closed : (vs : List (View T O R)) → vs ≡ [] → AllZip (Closes step_of is_open) vs []
  none_closed [] e = tt
  none_closed (v ∷ vs) e = absurd cc

  -- the value comes back where no call was made
  pub closed_fresh : (x y : T) → Closes step_of is_open (first_view {O = O} {R = R} x) y → y ≡ x
  closed_fresh x y c = none_played c.log c.counted c.legal
    where
      opening_is : c.opening ≡ x
      opening_is = let o = c.opened in cc

      none_played : (log : List (Entry O R)) → length log ≡ 0 → IsLegal step_of c.opening log y → y ≡ x
      none_played [] none legal = sym legal ∙ opening_is
      none_played (e ∷ es) none legal = absurd (omega (arith, none))

  pub all_back : (xs ys : List T) → AllZip (Closes step_of is_open) (map first_view xs) ys → ys ≡ xs
  all_back [] [] all = refl
  all_back [] (y ∷ ys) all = absurd all
  all_back (x ∷ xs) [] all = absurd all
  all_back (x ∷ xs) (y ∷ ys) all = ap (λ (z : T). z ∷ ys) (closed_fresh x y all.0) ∙ ap (λ (l : List T). x ∷ l) (all_back xs ys all.1)

module _ {T O R : Type 0} where
  none_seen : (vs : List (View T O R)) → vs ≡ [] → AllZip (λ (w v : View T O R). StartsWith w.seen v.seen) [] vs
  none_seen [] e = tt
  none_seen (v ∷ vs) e = absurd cc

module _ {T O R : Type 0} {g : Ghosts T O R} where
  -- the passes stay of their locks where one is changed
  pub own_stays : (locks : List (TurnLock T O R)) (passes : List (Pass T O R g)) (k : ℕ) (l : TurnLock T O R) (p : Pass T O R g)
      → AreOf locks passes → slice_get locks k ≡ Some l → IsPassOf l p → AreOf locks (slice_set passes k p)
  own_stays locks passes k l p own at is =
      map_set id_of_pass passes k p
      ∙ (ap (λ (i : TableId). slice_set (ids_in passes) k i) is
      ∙ (set_same (ids_in passes) k (id_of_lock l) (ap (λ (ids : List TableId). slice_get ids k) own ∙ map_get id_of_lock locks k l at) ∙ own))

  pub own_at : (locks : List (TurnLock T O R)) (passes : List (Pass T O R g)) (k : ℕ) (l : TurnLock T O R) (p : Pass T O R g)
      → AreOf locks passes → slice_get locks k ≡ Some l → slice_get passes k ≡ Some p → IsPassOf l p
  own_at locks passes k l p own at there = same_at id_of_pass id_of_lock passes locks k p l own there at

  pub view_at : (passes : List (Pass T O R g)) (k : ℕ) (p : Pass T O R g) → slice_get passes k ≡ Some p → slice_get (views_in passes) k ≡ Some (view_of p)
  view_at passes k p at = map_get view_of passes k p at

  pub views_set : (passes : List (Pass T O R g)) (k : ℕ) (p : Pass T O R g) → views_in (slice_set passes k p) ≡ slice_set (views_in passes) k (view_of p)
  views_set passes k p = map_set view_of passes k p

  module _ (step_of : T → O → R → T → Type 0) (is_open : O → Bool) where
    -- ---- so many of the first passes were split
    pub record SplitSome (i : ℕ) (locks : List (TurnLock T O R)) (first passes new : List (Pass T O R g)) : Type 0 where
      pub own : AreOf locks passes
      pub new_own : ids_in new ≡ take i (map id_of_lock locks)
      pub firsts : views_in passes ≡ map split_view (take i (views_in first)) ++ drop i (views_in first)
      pub news : views_in new ≡ map new_view (take i (views_in first))
      pub knows : AllKnow step_of is_open (views_in first) → AllKnow step_of is_open (views_in passes) × AllKnow step_of is_open (views_in new)

    pub split_none : (locks : List (TurnLock T O R)) (first new : List (Pass T O R g)) → AreOf locks first → new ≡ [] → SplitSome 0 locks first first new
    split_none locks first new own none = record {
      own = own;
      new_own = ap ids_in none;
      firsts = refl;
      news = ap views_in none;
      knows = λ know. (know, subst (λ (l : List (Pass T O R g)). AllKnow step_of is_open (views_in l)) (sym none) (All-nil (KnowsHistory step_of is_open)));
    }

    -- the view in the next place is still the one that it was
    pub next_is : (i : ℕ) (locks : List (TurnLock T O R)) (first passes new : List (Pass T O R g)) (p : Pass T O R g) → SplitSome i locks first passes new
        → slice_get passes i ≡ Some p → slice_get (views_in first) i ≡ Some (view_of p)
    next_is i locks first passes new p some at =
        back_get split_view (views_in first) i (view_of p) (sym (ap (λ (l : List (View T O R)). slice_get l i) some.firsts) ∙ view_at passes i p at)

    pub split_next : (i : ℕ) (locks : List (TurnLock T O R)) (first passes new : List (Pass T O R g)) (l : TurnLock T O R) (p one other : Pass T O R g)
        → SplitSome i locks first passes new → slice_get locks i ≡ Some l → slice_get passes i ≡ Some p → IsPassOf l one × IsPassOf l other
        → view_of one ≡ split_view (view_of p) → view_of other ≡ new_view (view_of p)
        → (KnowsHistory step_of is_open (view_of p) → KnowsHistory step_of is_open (view_of one) × KnowsHistory step_of is_open (view_of other))
        → SplitSome (suc i) locks first (slice_set passes i one) (new ++ other ∷ [])
    split_next i locks first passes new l p one other some at there is one_is other_is both =
        let v : slice_get (views_in first) i ≡ Some (view_of p) = next_is i locks first passes new p some there in
        record {
          own = own_stays locks passes i l one some.own at is.0;
          new_own = map-append id_of_pass new (other ∷ [])
              ∙ (ap (λ (ids : List TableId). ids ++ id_of_pass other ∷ []) some.new_own
              ∙ (ap (λ (n : TableId). take i (map id_of_lock locks) ++ n ∷ []) is.1
              ∙ sym (take_more (map id_of_lock locks) i (id_of_lock l) (map_get id_of_lock locks i l at))));
          firsts = views_set passes i one
              ∙ (ap (λ (w : View T O R). slice_set (views_in passes) i w) one_is
              ∙ (ap (λ (vs : List (View T O R)). slice_set vs i (split_view (view_of p))) some.firsts
              ∙ back_set split_view (views_in first) i (view_of p) v));
          news = map-append view_of new (other ∷ [])
              ∙ (ap (λ (vs : List (View T O R)). vs ++ view_of other ∷ []) some.news
              ∙ (ap (λ (w : View T O R). map new_view (take i (views_in first)) ++ w ∷ []) other_is
              ∙ (sym (map-append new_view (take i (views_in first)) (view_of p ∷ []))
              ∙ ap (map new_view) (sym (take_more (views_in first) i (view_of p) v)))));
          knows = λ know.
              let was = some.knows know in
              let here = both (all_at (KnowsHistory step_of is_open) (views_in passes) i (view_of p) was.0 (view_at passes i p there)) in (
                subst (AllKnow step_of is_open) (sym (views_set passes i one)) (all_set (KnowsHistory step_of is_open) (views_in passes) i (view_of one) was.0 here.0),
                subst (AllKnow step_of is_open) (sym (map-append view_of new (other ∷ []))) (All-push (KnowsHistory step_of is_open) (views_in new) (view_of other) was.1 here.1),
              );
        }

    pub split_few : (i : ℕ) (locks : List (TurnLock T O R)) (first passes new : List (Pass T O R g)) → SplitSome i locks first passes new → length new ≤ i
    split_few i locks first passes new some =
        let a = length-map new view_of in
        let b = ap length some.news in
        let c = length-map (take i (views_in first)) new_view in
        let d = take_short i (views_in first) in
        omega (arith, a, b, c, d)

    -- ---- all but so many were joined
    pub record JoinSome (n : ℕ) (locks : List (TurnLock T O R)) (first others passes rest : List (Pass T O R g)) : Type 0 where
      pub own : AreOf locks passes
      pub left : rest ≡ take n others
      pub fits : n ≤ length (views_in first)
      pub joined : List (View T O R)
      pub views : views_in passes ≡ take n (views_in first) ++ joined
      pub joined_is : joined ≡ joined_views (drop n (views_in first)) (drop n (views_in others))
      pub knows : AllKnow step_of is_open joined
      pub seen : AllZip (λ (w v : View T O R). StartsWith w.seen v.seen) joined (drop n (views_in first))
      pub other : AllZip (λ (w v : View T O R). StartsWith w.seen v.seen) joined (drop n (views_in others))

    pub join_none : (locks : List (TurnLock T O R)) (first others : List (Pass T O R g)) → AreOf locks first → length first ≡ length others
        → JoinSome (length others) locks first others first others
    join_none locks first others own same =
        let count : length (views_in first) ≡ length others = length-map first view_of ∙ same in
        let none : drop (length others) (views_in first) ≡ [] = ap (λ (n : ℕ). drop n (views_in first)) (sym count) ∙ drop_all (views_in first) in
        let no_other : drop (length others) (views_in others) ≡ [] =
        ap (λ (n : ℕ). drop n (views_in others)) (sym (length-map others view_of)) ∙ drop_all (views_in others) in
        record {
          own = own;
          left = sym (take_all others);
          fits = omega (arith, count);
          joined = [];
          views = sym (append-nil (take (length others) (views_in first)) ∙ (ap (λ (n : ℕ). take n (views_in first)) (sym count) ∙ take_all (views_in first)));
          joined_is = sym (ap (λ (vs : List (View T O R)). joined_views vs (drop (length others) (views_in others))) none);
          knows = All-nil (KnowsHistory step_of is_open);
          seen = none_seen (drop (length others) (views_in first)) none;
          other = none_seen (drop (length others) (views_in others)) no_other;
        }

    pub join_one : (m : ℕ) (locks : List (TurnLock T O R)) (first others passes rest less : List (Pass T O R g)) (o : Pass T O R g)
        → JoinSome (length rest) locks first others passes rest → rest ≡ less ++ o ∷ [] → length less ≡ m → JoinSome (suc m) locks first others passes rest
    join_one m locks first others passes rest less o some popped count =
        let a = ap length popped in let b = length-append less (o ∷ []) in
        let n : length rest ≡ suc m = omega (arith, a, b, count) in
        subst (λ (k : ℕ). JoinSome k locks first others passes rest) n some

    pub join_inside : (m : ℕ) (locks : List (TurnLock T O R)) (first others passes rest : List (Pass T O R g)) → JoinSome (suc m) locks first others passes rest
        → AreOf locks first → (m < length locks) × (m < length passes)
    join_inside m locks first others passes rest some own =
        let a = some.fits in
        let b = length-map first view_of in
        let c = ap length own in let d = length-map first id_of_pass in let e = length-map locks id_of_lock in
        let f = ap length some.own in let h = length-map passes id_of_pass in
        (omega (arith, a, b, c, d, e), omega (arith, a, b, c, d, e, f, h))

    pub other_is : (m : ℕ) (locks : List (TurnLock T O R)) (first others passes rest less : List (Pass T O R g)) (o : Pass T O R g)
        → JoinSome (suc m) locks first others passes rest → rest ≡ less ++ o ∷ [] → length less ≡ m → (slice_get others m ≡ Some o) × (less ≡ take m others)
    other_is m locks first others passes rest less o some popped count = last_of others m less o (sym popped ∙ some.left) count

    pub join_first : (m : ℕ) (locks : List (TurnLock T O R)) (first others passes rest : List (Pass T O R g)) (p : Pass T O R g)
        → JoinSome (suc m) locks first others passes rest → slice_get passes m ≡ Some p → slice_get (views_in first) m ≡ Some (view_of p)
    join_first m locks first others passes rest p some at =
        let fits = some.fits in
        front_get (views_in first) some.joined m (view_of p) (omega (arith, fits)) (sym (ap (λ (l : List (View T O R)). slice_get l m) some.views) ∙ view_at passes m p at)

    pub join_next : (m : ℕ) (locks : List (TurnLock T O R)) (first others passes rest less : List (Pass T O R g)) (o : Pass T O R g) (l : TurnLock T O R) (p one : Pass T O R g)
        → JoinSome (suc m) locks first others passes rest → rest ≡ less ++ o ∷ [] → length less ≡ m
        → slice_get locks m ≡ Some l → slice_get passes m ≡ Some p → IsPassOf l one
        → view_of one ≡ joined_view (view_of p) (view_of o)
        → StartsWith (view_of one).seen (view_of p).seen × StartsWith (view_of one).seen (view_of o).seen
        → KnowsHistory step_of is_open (view_of one)
        → JoinSome m locks first others (slice_set passes m one) less
    join_next m locks first others passes rest less o l p one some popped count at there is joined seen knows =
        let other = other_is m locks first others passes rest less o some popped count in
        let v = join_first m locks first others passes rest p some there in
        let u : slice_get (views_in others) m ≡ Some (view_of o) = view_at others m o other.0 in
        let firsts = drop_at (views_in first) m (view_of p) v in
        let others_are = drop_at (views_in others) m (view_of o) u in
        let fits = some.fits in
        record {
          own = own_stays locks passes m l one some.own at is;
          left = other.1;
          fits = omega (arith, fits);
          joined = view_of one ∷ some.joined;
          views = views_set passes m one
              ∙ (ap (λ (vs : List (View T O R)). slice_set vs m (view_of one)) some.views
              ∙ front_set (views_in first) some.joined m (view_of one) (omega (arith, fits)));
          joined_is = ap (λ (vs : List (View T O R)). view_of one ∷ vs) some.joined_is
              ∙ (ap (λ (w : View T O R). w ∷ joined_views (drop (suc m) (views_in first)) (drop (suc m) (views_in others))) joined
              ∙ (sym (ap (λ (vs : List (View T O R)). joined_views (view_of p ∷ drop (suc m) (views_in first)) vs) others_are)
              ∙ sym (ap (λ (vs : List (View T O R)). joined_views vs (drop m (views_in others))) firsts)));
          knows = All-cons (KnowsHistory step_of is_open) (view_of one) some.joined knows some.knows;
          seen = subst (AllZip (λ (w x : View T O R). StartsWith w.seen x.seen) (view_of one ∷ some.joined)) (sym firsts) (seen.0, some.seen);
          other = subst (AllZip (λ (w x : View T O R). StartsWith w.seen x.seen) (view_of one ∷ some.joined)) (sym others_are) (seen.1, some.other);
        }

    -- ---- all but so many were closed
    pub record UnlockSome (n : ℕ) (all : List (TurnLock T O R)) (passes : List (Pass T O R g)) (values : List T)
        (locks : List (TurnLock T O R)) (rest : List (Pass T O R g)) (now : List T) : Type 0 where
      pub left : locks ≡ take n all
      pub rest_is : rest ≡ take n passes
      pub same : length locks ≡ length rest
      pub closed : List T
      pub closes : AllZip (Closes step_of is_open) (drop n (views_in passes)) closed
      pub now_is : now ≡ values ++ reverse closed

    pub unlock_none : (all : List (TurnLock T O R)) (passes : List (Pass T O R g)) (values : List T) → AreOf all passes
        → UnlockSome (length all) all passes values all passes values
    unlock_none all passes values own =
        let count : length passes ≡ length all = sym (length-map passes id_of_pass) ∙ (ap length own ∙ length-map all id_of_lock) in
        record {
          left = sym (take_all all);
          rest_is = sym (ap (λ (n : ℕ). take n passes) (sym count) ∙ take_all passes);
          same = sym count;
          closed = [];
          closes = none_closed step_of is_open (drop (length all) (views_in passes))
              (ap (λ (n : ℕ). drop n (views_in passes)) (sym (length-map passes view_of ∙ count)) ∙ drop_all (views_in passes));
          now_is = sym (append-nil values);
        }

    pub unlock_one : (m : ℕ) (all : List (TurnLock T O R)) (passes : List (Pass T O R g)) (values : List T) (locks : List (TurnLock T O R)) (rest : List (Pass T O R g)) (now : List T)
        (fewer : List (TurnLock T O R)) (l : TurnLock T O R)
        → UnlockSome (length locks) all passes values locks rest now → locks ≡ fewer ++ l ∷ [] → length fewer ≡ m → UnlockSome (suc m) all passes values locks rest now
    unlock_one m all passes values locks rest now fewer l some popped count =
        let a = ap length popped in let b = length-append fewer (l ∷ []) in
        let n : length locks ≡ suc m = omega (arith, a, b, count) in
        subst (λ (k : ℕ). UnlockSome k all passes values locks rest now) n some

    -- the pass is the one of the lock
    pub last_both : (m : ℕ) (all : List (TurnLock T O R)) (passes : List (Pass T O R g)) (values : List T) (locks : List (TurnLock T O R)) (rest : List (Pass T O R g)) (now : List T)
        (fewer : List (TurnLock T O R)) (l : TurnLock T O R) (less : List (Pass T O R g)) (p : Pass T O R g)
        → UnlockSome (suc m) all passes values locks rest now → locks ≡ fewer ++ l ∷ [] → rest ≡ less ++ p ∷ [] → length fewer ≡ m → length less ≡ m
        → (slice_get all m ≡ Some l) × (fewer ≡ take m all) × (slice_get passes m ≡ Some p) × (less ≡ take m passes)
    last_both m all passes values locks rest now fewer l less p some popped other_popped count other_count =
        let a = last_of all m fewer l (sym popped ∙ some.left) count in
        let b = last_of passes m less p (sym other_popped ∙ some.rest_is) other_count in
        (a.0, a.1, b.0, b.1)

    pub unlock_next : (m : ℕ) (all : List (TurnLock T O R)) (passes : List (Pass T O R g)) (values : List T) (locks : List (TurnLock T O R)) (rest : List (Pass T O R g)) (now : List T)
        (fewer : List (TurnLock T O R)) (l : TurnLock T O R) (less : List (Pass T O R g)) (p : Pass T O R g) (value : T)
        → UnlockSome (suc m) all passes values locks rest now → locks ≡ fewer ++ l ∷ [] → rest ≡ less ++ p ∷ [] → length fewer ≡ m → length less ≡ m
        → Closes step_of is_open (view_of p) value
        → UnlockSome m all passes values fewer less (now ++ value ∷ [])
    unlock_next m all passes values locks rest now fewer l less p value some popped other_popped count other_count closes =
        let both = last_both m all passes values locks rest now fewer l less p some popped other_popped count other_count in
        let v = drop_at (views_in passes) m (view_of p) (view_at passes m p both.2) in
        record {
          left = both.1;
          rest_is = both.3;
          same = count ∙ sym other_count;
          closed = value ∷ some.closed;
          closes = subst (λ (vs : List (View T O R)). AllZip (Closes step_of is_open) vs (value ∷ some.closed)) (sym v) (closes, some.closes);
          now_is = ap (λ (xs : List T). xs ++ value ∷ []) some.now_is
              ∙ (append_assoc values (reverse some.closed) (value ∷ [])
              ∙ ap (λ (xs : List T). values ++ xs) (sym (reverse_one value some.closed)));
        }

    -- ---- values were put under locks, the last one first
    pub record LockSome (values now : List T) (locks : List (TurnLock T O R)) (passes : List (Pass T O R g)) : Type 0 where
      pub own : AreOf locks passes
      pub done : List T
      pub views : views_in passes ≡ map first_view done
      pub parts : reverse values ≡ done ++ reverse now
      pub knows : AllKnow step_of is_open (views_in passes)
      pub count : length now + length locks ≡ length values
      pub same : length passes ≡ length locks

    pub lock_none : (values : List T) (locks : List (TurnLock T O R)) (passes : List (Pass T O R g)) → locks ≡ [] → passes ≡ [] → LockSome values values locks passes
    lock_none values locks passes no_lock no_pass = record {
      own = ap ids_in no_pass ∙ sym (ap (map id_of_lock) no_lock);
      done = [];
      views = ap views_in no_pass;
      parts = refl;
      knows = subst (λ (l : List (Pass T O R g)). AllKnow step_of is_open (views_in l)) (sym no_pass) (All-nil (KnowsHistory step_of is_open));
      count = let e = ap length no_lock in omega (arith, e);
      same = ap length no_pass ∙ sym (ap length no_lock);
    }

    pub lock_next : (values now less : List T) (locks : List (TurnLock T O R)) (passes : List (Pass T O R g)) (value : T) (l : TurnLock T O R) (p : Pass T O R g)
        → LockSome values now locks passes → now ≡ less ++ value ∷ [] → IsPassOf l p → view_of p ≡ first_view value → KnowsHistory step_of is_open (view_of p)
        → LockSome values less (locks ++ l ∷ []) (passes ++ p ∷ [])
    lock_next values now less locks passes value l p some popped is first knows =
        let n = length-append less (value ∷ []) in
        let o = length-append locks (l ∷ []) in
        let q = length-append passes (p ∷ []) in
        let e = ap length popped in
        let c = some.count in
        let s = some.same in
        record {
          own = map-append id_of_pass passes (p ∷ [])
              ∙ (ap (λ (ids : List TableId). ids ++ id_of_pass p ∷ []) some.own
              ∙ (ap (λ (i : TableId). map id_of_lock locks ++ i ∷ []) is ∙ sym (map-append id_of_lock locks (l ∷ []))));
          done = some.done ++ value ∷ [];
          views = map-append view_of passes (p ∷ [])
              ∙ (ap (λ (vs : List (View T O R)). vs ++ view_of p ∷ []) some.views
              ∙ (ap (λ (w : View T O R). map first_view some.done ++ w ∷ []) first ∙ sym (map-append first_view some.done (value ∷ []))));
          parts = some.parts
              ∙ (ap (λ (xs : List T). some.done ++ reverse xs) popped
              ∙ (ap (λ (xs : List T). some.done ++ xs) (reverse-append less (value ∷ []))
              ∙ sym (append_assoc some.done (value ∷ []) (reverse less))));
          knows = subst (AllKnow step_of is_open) (sym (map-append view_of passes (p ∷ []))) (All-push (KnowsHistory step_of is_open) (views_in passes) (view_of p) some.knows knows);
          count = omega (arith, n, o, e, c);
          same = omega (arith, o, q, s);
        }
