-- What a search leaves of lanes whose places were taken.
use native.Mathlib.Omega.{arith}
use Rattle.std.proofs.Common.{◌≡◌, ℕ, zero, suc, inl, inr, List, [], ◌∷◌, Option, Some, refl, sym, ap, ◌∙◌, subst, length, map}
use Rattle.std.specs.Prelude.{◌⊎◌, slice_get}
use Rattle.std.specs.List.{AllZip}
use Rattle.std.proofs.lemmas.List.{length-map}
use Rattle.std.proofs.lemmas.List.Elements.{All-cons, All-head, All-nil, All-tail}
use Rattle.std.proofs.lemmas.Option.{none-some, same_Some}
use Rattle.eql_values.specs.Accepted.{Reads}
use Rattle.eql_outside.specs.Outside.{Rose}
use Rattle.eql_outside.specs.Plans.{FaultPlan}
use Rattle.eql_outside.specs.Unfailing.{IsUnfailing}
use Rattle.eql_lane.specs.Views.{LaneView}
use Rattle.eql_search.specs.Answers.{AreUnfailing, BecameAt, RoseFaults, AreSteadyBut, StaysLane}
use Rattle.eql_find.specs.LaneOutcomes.{StaysSource}
use Rattle.eql_find.specs.Searching.{bare}

-- ---- the lane of a shard
pub bare_at : {S L : Type 0} (lanes : List (LaneView S L)) (s : ℕ) (lane : LaneView S L) → slice_get lanes s ≡ Some lane
    → slice_get (map bare lanes) s ≡ Some (bare lane)
bare_at [] s lane is = absurd (none-some lane is)
bare_at (l ∷ ls) zero lane is = ap (λ (x : LaneView _ _). Some (bare x)) (same_Some l lane is)
bare_at (l ∷ ls) (suc s) lane is = bare_at ls s lane is

-- the lane from which places were taken
pub record FromBare {S L : Type 0} (lanes : List (LaneView S L)) (s : ℕ) (lane : LaneView S L) : Type 0 where
  pub own : LaneView S L
  pub was : slice_get lanes s ≡ Some own
  pub bare_is : bare own ≡ lane

pub from_bare : {S L : Type 0} (lanes : List (LaneView S L)) (s : ℕ) (lane : LaneView S L) → slice_get (map bare lanes) s ≡ Some lane → FromBare lanes s lane
from_bare [] s lane is = absurd (none-some lane is)
from_bare (l ∷ ls) zero lane is = record { own = l; was = refl; bare_is = same_Some (bare l) lane is }
from_bare (l ∷ ls) (suc s) lane is =
    let f = from_bare ls s lane is in
    record { own = f.own; was = f.was; bare_is = f.bare_is }

-- ---- what stays of each
module _ {S L : Type 0} (left lent_as : S → Option (List ℕ)) where
  stay : (lanes : List (LaneView S L)) → AllZip (StaysSource left lent_as) lanes lanes
  stay [] = tt
  stay (l ∷ ls) = (record { named = refl; silent = λ h. h; counts = omega arith }, stay ls)

  bare_stay : (lanes : List (LaneView S L)) → AllZip (StaysSource left lent_as) lanes (map bare lanes)
  bare_stay [] = tt
  bare_stay (l ∷ ls) = (record { named = refl; silent = λ h. h; counts = omega arith }, bare_stay ls)

  pub stays_taken : (lanes mids : List (LaneView S L)) → (mids ≡ lanes) ⊎ (mids ≡ map bare lanes) → AllZip (StaysSource left lent_as) lanes mids
  stays_taken lanes mids (inl e) = subst (λ (ls : List (LaneView S L)). AllZip (StaysSource left lent_as) lanes ls) (sym e) (stay lanes)
  stays_taken lanes mids (inr e) = subst (λ (ls : List (LaneView S L)). AllZip (StaysSource left lent_as) lanes ls) (sym e) (bare_stay lanes)

  module _ (read_of : L → Reads) where
    bare_searched : (lanes news : List (LaneView S L)) → AllZip (StaysLane left lent_as read_of) (map bare lanes) news
        → AllZip (StaysSource left lent_as) lanes news
    bare_searched [] [] h = tt
    bare_searched [] (n ∷ ns) h = absurd h
    bare_searched (l ∷ ls) [] h = absurd h
    bare_searched (l ∷ ls) (n ∷ ns) h =
        (record { named = h.0.same.named; silent = h.0.same.silent; counts = h.0.counts }, bare_searched ls ns h.1)

    pub stays_searched : (lanes mids news : List (LaneView S L)) → mids ≡ map bare lanes → AllZip (StaysLane left lent_as read_of) mids news
        → AllZip (StaysSource left lent_as) lanes news
    stays_searched lanes mids news taken h =
        bare_searched lanes news (subst (λ (ls : List (LaneView S L)). AllZip (StaysLane left lent_as read_of) ls news) taken h)

    zip_long : (olds news : List (LaneView S L)) → AllZip (StaysLane left lent_as read_of) olds news → length news ≡ length olds
    zip_long [] [] h = refl
    zip_long [] (n ∷ ns) h = absurd h
    zip_long (l ∷ ls) [] h = absurd h
    zip_long (l ∷ ls) (n ∷ ns) h = ap suc (zip_long ls ns h.1)

    pub long_searched : (lanes mids news : List (LaneView S L)) → mids ≡ map bare lanes → AllZip (StaysLane left lent_as read_of) mids news
        → length news ≡ length lanes
    long_searched lanes mids news taken h = zip_long mids news h ∙ ap length taken ∙ length-map lanes bare

-- ---- faults
module _ {S L : Type 0} where
  -- no lane's faults rose
  steady_none : (lanes : List (LaneView S L)) → AreSteadyBut (λ s. ⊥) lanes lanes
  steady_none lanes = λ shard old new untold was is. ap (λ (l : LaneView S L). l.state.faults) (same_Some new old (sym is ∙ was))

  steady_bare : (lanes : List (LaneView S L)) → AreSteadyBut (λ s. ⊥) lanes (map bare lanes)
  steady_bare lanes = λ shard old new untold was is. ap (λ (l : LaneView S L). l.state.faults) (same_Some new (bare old) (sym is ∙ bare_at lanes shard old was))

  pub steady_taken : (lanes mids : List (LaneView S L)) → (mids ≡ lanes) ⊎ (mids ≡ map bare lanes) → AreSteadyBut (λ s. ⊥) lanes mids
  steady_taken lanes mids (inl e) = subst (λ (ls : List (LaneView S L)). AreSteadyBut (λ s. ⊥) lanes ls) (sym e) (steady_none lanes)
  steady_taken lanes mids (inr e) = subst (λ (ls : List (LaneView S L)). AreSteadyBut (λ s. ⊥) lanes ls) (sym e) (steady_bare lanes)

  module _ (lanes mids news : List (LaneView S L)) (taken : mids ≡ map bare lanes) where
    at_mids : (s : ℕ) (lane : LaneView S L) → slice_get mids s ≡ Some lane → slice_get (map bare lanes) s ≡ Some lane
    at_mids s lane was = ap (λ (ls : List (LaneView S L)). slice_get ls s) (sym taken) ∙ was

    pub own_of : (s : ℕ) (lane : LaneView S L) → slice_get mids s ≡ Some lane → FromBare lanes s lane
    own_of s lane was = from_bare lanes s lane (at_mids s lane was)

    pub steady_over : (IsTold : ℕ → Type 0) → AreSteadyBut IsTold mids news → AreSteadyBut IsTold lanes news
    steady_over IsTold steady = λ shard old new untold was is.
        steady shard (bare old) new untold (ap (λ (ls : List (LaneView S L)). slice_get ls shard) taken ∙ bare_at lanes shard old was) is

    pub rose_over : (shard : ℕ) → BecameAt shard mids news RoseFaults → BecameAt shard lanes news RoseFaults
    rose_over shard b =
        let f = own_of shard b.old b.was in
        record {
          old = f.own;
          new = b.new;
          was = f.was;
          is = b.is;
          became = subst (λ (l : LaneView S L). Rose l.state.faults b.new.state.faults) (sym f.bare_is) b.became;
        }

-- ---- plans of faults
bare_unfailing : {S L : Type 0} (plan : S → Option FaultPlan) (lanes : List (LaneView S L)) → AreUnfailing plan lanes → AreUnfailing plan (map bare lanes)
bare_unfailing plan [] all = All-nil (λ (lane : LaneView _ _). IsUnfailing (plan lane.source))
bare_unfailing plan (l ∷ ls) all =
    All-cons (λ (lane : LaneView _ _). IsUnfailing (plan lane.source)) (bare l) (map bare ls)
    (All-head (λ (lane : LaneView _ _). IsUnfailing (plan lane.source)) l ls all)
    (bare_unfailing plan ls (All-tail (λ (lane : LaneView _ _). IsUnfailing (plan lane.source)) l ls all))

pub unfailing_taken : {S L : Type 0} (plan : S → Option FaultPlan) (lanes mids : List (LaneView S L)) → mids ≡ map bare lanes
    → AreUnfailing plan lanes → AreUnfailing plan mids
unfailing_taken plan lanes mids taken all =
    subst (λ (ls : List (LaneView _ _)). AreUnfailing plan ls) (sym taken) (bare_unfailing plan lanes all)
