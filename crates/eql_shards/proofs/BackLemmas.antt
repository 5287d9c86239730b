-- Sources that go back to their shelf, one by one.
use native.Mathlib.Omega.{arith}
use Rattle.std.proofs.Common.{◌≡◌, ℕ, zero, suc, ◌+◌, ◌-◌, ◌<◌, ◌≤◌, ◌⊎◌, inl, inr, Bool, true, false, List, [], ◌∷◌, ◌++◌, Option, Some, None, refl, sym, ap, ap₂, ◌∙◌, subst, length, map}
use Rattle.std.specs.Prelude.{All, Decides, IfSome}
use Rattle.std.specs.Str.{bytes_eq}
use Rattle.std.proofs.lemmas.Bool.{false≢true}
use Rattle.std.proofs.lemmas.Slice.Eq.{bytes_eq-Decides}
use Rattle.std.proofs.lemmas.List.{append-nil, append_assoc}
use Rattle.std.proofs.lemmas.List.Elements.{All-head, All-tail}
use Rattle.eql_outside.specs.Outside.{Rose}
use Rattle.eql_outside.specs.Faults.{FaultsAreSame, RoseFor, RoseUnder}
use Rattle.eql_outside.specs.Keeping.{RisesUnderWhere, RisesWhere}
use Rattle.eql_outside.specs.declared.shelf.Shelf as shelves
use Rattle.eql_lane.specs.Views.{LaneView}
use Rattle.eql_runs.specs.Outcomes.{DiskIsSame}
use Rattle.eql_inputs.specs.Shelves.{KeepsShelf}
use Rattle.eql_shards.specs.Giving.{CameBack, NoSourceFailed, Returned, SomeSourceFailed, TakesBack, lane_returned, return_of}
use Rattle.eql_inputs.proofs.ShelfLemmas.{keeps_later, keeps_still}

-- what a shelf's counts say once one source comes back
pub record CameOne (back : Returned) (before now : ℕ) (names names' : List ℕ → ℕ) : Type 0 where
  pub raised : 0 < back.faults → Rose before now
  pub raised_named : 0 < back.faults → RoseUnder back.name names names'
  pub same : back.faults ≡ 0 → now ≡ before
  pub same_named : back.faults ≡ 0 → FaultsAreSame names names'
  pub counts : before ≤ now

-- what a shelf says of a source that it takes back
pub one_source : {H : Type 0} (count : H → ℕ) (names : H → List ℕ → ℕ) (back : Returned) (before now : H)
    → RisesWhere count (0 < back.faults) before now → RisesUnderWhere names back.name (0 < back.faults) before now
    → CameOne back (count before) (count now) (names before) (names now)
one_source count names back before now all each = record {
  raised = all.rose;
  raised_named = each.rose;
  same = λ none. all.same (λ some. omega (arith, none, some));
  same_named = λ none. each.same (λ some. omega (arith, none, some));
  counts = all.rises;
}

-- ---- counts that grow
rose_first : (a b c : ℕ) → a ≤ b → Rose b c → Rose a c
rose_first a b c up (inl h) = inl (omega (arith, up, h))
rose_first a b c up (inr h) = inr h

-- what rose stays so where it grows no further but by a rise
rose_then : (a b c : ℕ) → a ≤ b → Rose a b → Rose b c ⊎ (c ≡ b) → Rose a c
rose_then a b c up rose (inl further) = rose_first a b c up further
rose_then a b c up rose (inr same) = subst (λ (n : ℕ). Rose a n) (sym same) rose

-- the counts by name, where those of the name under which a source was lent rose
module _ (names names' : List ℕ → ℕ) where
  grown_under : (o : Option (List ℕ)) → RoseUnder o names names' → (any : List ℕ) → names any ≤ names' any
  grown_under None same any = let e = same any in omega (arith, e)
  grown_under (Some name) rose any = rose.counts any

  by_equal : (any name : List ℕ) → RoseFor name names names' → (b : Bool) → Decides b (any ≡ name) → Rose (names any) (names' any) ⊎ (names' any ≡ names any)
  by_equal any name rose true is = inl (subst (λ (n : List ℕ). Rose (names n) (names' n)) (sym (is.0 refl)) rose.rose)
  by_equal any name rose false is = inr (rose.others any (λ e. absurd (false≢true (is.1 e))))

  rose_or_same : (o : Option (List ℕ)) → RoseUnder o names names' → (any : List ℕ) → Rose (names any) (names' any) ⊎ (names' any ≡ names any)
  rose_or_same None same any = inr (same any)
  rose_or_same (Some name) rose any = by_equal any name rose (bytes_eq any name) (bytes_eq-Decides any name)

  -- by whether the source failed
  module _ (faults : ℕ) (o : Option (List ℕ)) (raised : 0 < faults → RoseUnder o names names') (same : faults ≡ 0 → FaultsAreSame names names') where
    pub grown : (any : List ℕ) → names any ≤ names' any
    grown any = by faults refl
      where
        by : (n : ℕ) → faults ≡ n → names any ≤ names' any
        by zero e = let s = same e any in omega (arith, s)
        by (suc n) e = grown_under o (raised (omega (arith, e))) any

    pub rises : (any : List ℕ) → Rose (names any) (names' any) ⊎ (names' any ≡ names any)
    rises any = by faults refl
      where
        by : (n : ℕ) → faults ≡ n → Rose (names any) (names' any) ⊎ (names' any ≡ names any)
        by zero e = inr (same e any)
        by (suc n) e = rose_or_same o (raised (omega (arith, e))) any

by_name : (name : List ℕ) (o : Option (List ℕ)) (names names' : List ℕ → ℕ) → o ≡ Some name → RoseUnder o names names'
    → RoseFor name names names'
by_name name o names names' is rose = subst (λ (x : Option (List ℕ)). RoseUnder x names names') is rose

count_rises : (faults before now : ℕ) → (0 < faults → Rose before now) → (faults ≡ 0 → now ≡ before) → Rose before now ⊎ (now ≡ before)
count_rises zero before now raised same = inr (same refl)
count_rises (suc n) before now raised same = inl (raised (omega arith))

-- one more came back
pub one_came : (back : Returned) (backs : List Returned) (before mid now : ℕ) (first between last : List ℕ → ℕ)
    → CameBack backs before mid first between → CameOne back mid now between last
    → CameBack (back ∷ backs) before now first last
one_came back backs before mid now first between last came one = record {
  none = λ h.
      let earlier = came.none h.1 in
      (one.same h.0 ∙ earlier.0, λ name. one.same_named h.0 name ∙ earlier.1 name);
  one = λ name h. by name h;
  counts = (
    let a = came.counts.0 in let b = one.counts in omega (arith, a, b),
    λ any.
        let a = came.counts.1 any in
        let b = grown between last back.faults back.name one.raised_named one.same_named any in
        omega (arith, a, b),
  );
}
  where
    by : (name : List ℕ) → SomeSourceFailed name (back ∷ backs) → Rose before now × Rose (first name) (last name)
    by name (inl h) = (
      rose_first before mid now came.counts.0 (one.raised h.often),
      rose_first (first name) (between name) (last name) (came.counts.1 name) (by_name name back.name between last h.named (one.raised_named h.often)).rose,
    )
    by name (inr h) =
        let earlier = came.one name h in (
          rose_then before mid now came.counts.0 earlier.0 (count_rises back.faults mid now one.raised one.same),
          rose_then (first name) (between name) (last name) (came.counts.1 name) earlier.1 (rises between last back.faults back.name one.raised_named one.same_named name),
        )

-- sources that didn't fail
pub none_failed : {S : Type 0} (lent_as : S → Option (List ℕ)) (faults : S → ℕ) (sources : List S)
    → All (λ source. faults source ≡ 0) sources → NoSourceFailed (map (return_of lent_as faults) sources)
none_failed lent_as faults [] all = tt
none_failed lent_as faults (s ∷ ss) all = (
  All-head (λ source. faults source ≡ 0) s ss all,
  none_failed lent_as faults ss (All-tail (λ source. faults source ≡ 0) s ss all),
)

-- a lane's source that comes back
lane_back : {S L : Type 0} (lent_as : S → Option (List ℕ)) (faults : S → ℕ) (source : S) (lane : LaneView S L)
    → source ≡ lane.source → faults source ≡ lane.state.faults → return_of lent_as faults source ≡ lane_returned lent_as lane
lane_back lent_as faults source lane is count =
    ap₂ (λ (n : Option (List ℕ)) (f : ℕ). record { name = n; faults = f }) (ap lent_as is) count

-- as many are lent as before, and one fewer than when so many came back
none_back : (before : Option ℕ) → IfSome before (λ n. before ≡ Some (n - 0))
none_back None = tt
none_back (Some n) = ap (λ (x : ℕ). Some x) (omega arith)

one_back : (gone more : ℕ) (before mid now : Option ℕ) → more ≡ gone + 1 → IfSome before (λ n. mid ≡ Some (n - gone))
    → IfSome mid (λ n. now ≡ Some (n - 1)) → IfSome before (λ n. now ≡ Some (n - more))
one_back gone more None mid now is first then = tt
one_back gone more (Some n) mid now is first then =
    subst (λ (x : Option ℕ). IfSome x (λ n. now ≡ Some (n - 1))) first then ∙ ap (λ (x : ℕ). Some x) (omega (arith, is))

-- ---- what a shelf tells as sources come back one by one
module _ {H Src Dsk : Type 0} (shelf : shelves.Ghosts H Src Dsk) where
  -- one came back
  pub record TakesOne (back : Returned) (old new : H) : Type 0 where
    pub came : CameOne back (shelf.fault_count old) (shelf.fault_count new) (shelf.faults_of old) (shelf.faults_of new)
    pub absences_are : shelf.absent_count new ≡ shelf.absent_count old
    pub lent : IfSome (shelf.lent_count old) (λ n. shelf.lent_count new ≡ Some (n - 1))
    pub kept : KeepsShelf shelf old new
    pub plan_is : shelf.fault_plan new ≡ shelf.fault_plan old

  pub takes_one : (back : Returned) (old new : H) → RisesWhere shelf.fault_count (0 < back.faults) old new
      → RisesUnderWhere shelf.faults_of back.name (0 < back.faults) old new → shelf.absent_count new ≡ shelf.absent_count old
      → IfSome (shelf.lent_count old) (λ n. shelf.lent_count new ≡ Some (n - 1)) → shelf.files new ≡ shelf.files old
      → shelf.source_plans new ≡ shelf.source_plans old
      → DiskIsSame shelf old new
      → shelf.fault_plan new ≡ shelf.fault_plan old → TakesOne back old new
  takes_one back old new all each absences lent files plans disk plan = record {
    came = one_source shelf.fault_count shelf.faults_of back old new all each;
    absences_are = absences;
    lent = lent;
    kept = record {
      files_are = files;
      plans_are = plans;
      disk_is = disk;
    };
    plan_is = plan;
  }

  pub takes_lane : {L : Type 0} (lent_as : Src → Option (List ℕ)) (faults : Src → ℕ) (source : Src) (lane : LaneView Src L) (old new : H)
      → source ≡ lane.source → faults source ≡ lane.state.faults → TakesOne (return_of lent_as faults source) old new
      → TakesOne (lane_returned lent_as lane) old new
  takes_lane lent_as faults source lane old new is count one =
      subst (λ (b : Returned). TakesOne b old new) (lane_back lent_as faults source lane is count) one

  -- of a list the last came back, before those that came back already
  pub record Gone {X : Type 0} (back_of : X → Returned) (all left : List X) (old new : H) : Type 0 where
    pub gone : List X
    pub all_are : all ≡ left ++ gone
    pub took : TakesBack shelf back_of gone old new

  pub none_gone : {X : Type 0} (back_of : X → Returned) (all : List X) (old : H) → Gone back_of all all old old
  none_gone back_of all old = record {
    gone = [];
    all_are = sym (append-nil all);
    took = record {
      came = record {
        none = λ h. (refl, λ name. refl);
        one = λ name h. absurd h;
        counts = (omega arith, λ any. omega arith);
      };
      absences_are = refl;
      lent = none_back (shelf.lent_count old);
      kept = keeps_still;
      plan_is = refl;
    };
  }

  pub one_gone : {X : Type 0} (back_of : X → Returned) (all left less : List X) (x : X) (old mid new : H) → left ≡ less ++ x ∷ []
      → Gone back_of all left old mid → TakesOne (back_of x) mid new → Gone back_of all less old new
  one_gone back_of all left less x old mid new is gone one = record {
    gone = x ∷ gone.gone;
    all_are = gone.all_are ∙ ap (λ ys. ys ++ gone.gone) is ∙ append_assoc less (x ∷ []) gone.gone;
    took = record {
      came = one_came (back_of x) (map back_of gone.gone) _ _ _ _ _ _ gone.took.came one.came;
      absences_are = one.absences_are ∙ gone.took.absences_are;
      lent = one_back (length gone.gone) (length (x ∷ gone.gone)) _ _ _ (omega arith) gone.took.lent one.lent;
      kept = keeps_later gone.took.kept one.kept;
      plan_is = one.plan_is ∙ gone.took.plan_is;
    };
  }
