-- How the passes of a hand grow over a run of steps.
use Rattle.std.proofs.Common.{◌≡◌, ◌≤◌, ◌<◌, ◌+◌, ◌⊎◌, inl, inr, ℕ, Bool, List, [], ◌∷◌, Option, None, Some, length, refl, sym, ap, ◌∙◌, subst, arith}
use Rattle.std.specs.Prelude.{true, false, not, ◌&&◌, ◌||◌, is_none, nat_lt, IfNone, IfSome}
use Rattle.std.proofs.lemmas.Bool.{and_cases, and_from, and_parts, false≢true, le-ltb, lt-ltb, ltb-false, ltb-true}
use Rattle.std.proofs.lemmas.Option.{none-some, same_Some}
use Rattle.eql_values.specs.Accepted.{Reads}
use Rattle.eql_outside.specs.Plans.{FaultPlan}
use Rattle.eql_hub.specs.declared.step.Did.{Did}
use Rattle.eql_hub.specs.declared.step.Did.TheVariants as did
use Rattle.eql_hub.specs.declared.step.HandFault.{HandFault}
use Rattle.eql_hub.specs.Hands.{HandView}
use Rattle.eql_hub.specs.Later.{IsLater}
use Rattle.eql_hub.specs.Steps.{Steps}
use Rattle.eql_hands.specs.Growth.{AreLater, HasMineWithin, HaveMineWithin}
use Rattle.eql_hands.specs.Runs.{EndsIdle, MeetsFault, PlaysSteps, Ran, fault_of, is_idle, may_go_on, may_stop}
use Rattle.eql_hands.proofs.Passes.{IsStep, later_on, later_same}
use Rattle.eql_hands.proofs.Places.{each_as, each_on, each_same}
use Rattle.eql_hands.proofs.Stepping.{steps_are}

-- what it takes to go on
pub record Goes (most_steps : ℕ) (dids : List Did) : Type 0 where
  pub no_fault : is_none (fault_of dids) ≡ true
  pub steps : length dids < most_steps

pub goes : (most_steps : ℕ) (dids : List Did) → may_go_on most_steps dids ≡ true → Goes most_steps dids
goes most_steps dids on =
    let a = and_parts (is_none (fault_of dids)) (nat_lt (length dids) most_steps) on in
    record { no_fault = a.0; steps = ltb-true (length dids) most_steps a.1 }

-- it may not go on after all its steps
pub ends_all : (most_steps : ℕ) (dids : List Did) → most_steps ≤ length dids → may_go_on most_steps dids ≡ false
ends_all most_steps dids all = by (is_none (fault_of dids)) (nat_lt (length dids) most_steps) (le-ltb (length dids) most_steps all)
  where
    by : (a b : Bool) → b ≡ false → a && b ≡ false
    by true b e = e
    by false b e = refl

module _ {S L : Type 0} (left lent_as : S → Option (List ℕ)) (fault_plan : S → Option FaultPlan) (read_of : L → Reads) (batch : ℕ) (alone : List Bool) (most_steps : ℕ) where
  pub played_later : (dids : List Did) (old new : HandView S L) → PlaysSteps left lent_as fault_plan read_of batch alone most_steps dids old new → AreLater old new
  played_later [] old new e = record {
    lanes = each_same IsLater old.lanes.views new.lanes.views later_same (ap (λ (h : HandView S L). h.lanes.views) e);
    parts = each_same IsLater old.parts.views new.parts.views later_same (ap (λ (h : HandView S L). h.parts.views) e);
  }
  played_later (answer ∷ before) old new (on, mid, played, step) =
      let a = played_later before old mid played in
      let s = steps_are left lent_as fault_plan read_of batch alone answer mid new step in
      record {
        lanes = each_on IsLater IsStep IsLater old.lanes.views mid.lanes.views new.lanes.views (λ u v w x y. later_on u v w x y.later) a.lanes s.lanes;
        parts = each_on IsLater IsStep IsLater old.parts.views mid.parts.views new.parts.views (λ u v w x y. later_on u v w x y.later) a.parts s.parts;
      }

  pub played_bound : (dids : List Did) (old new : HandView S L) → PlaysSteps left lent_as fault_plan read_of batch alone most_steps dids old new
      → HaveMineWithin (length dids) old new
  played_bound [] old new e = record {
    lanes = each_same (HasMineWithin 0) old.lanes.views new.lanes.views (λ v w e. let m = ap (λ (u : _). length u.mine) e in omega (arith, m)) (ap (λ (h : HandView S L). h.lanes.views) e);
    parts = each_same (HasMineWithin 0) old.parts.views new.parts.views (λ v w e. let m = ap (λ (u : _). length u.mine) e in omega (arith, m)) (ap (λ (h : HandView S L). h.parts.views) e);
  }
  played_bound (answer ∷ before) old new (on, mid, played, step) =
      let a = played_bound before old mid played in
      let s = steps_are left lent_as fault_plan read_of batch alone answer mid new step in
      record {
        lanes = each_on (HasMineWithin (length before)) IsStep (HasMineWithin (length (answer ∷ before))) old.lanes.views mid.lanes.views new.lanes.views
            (λ u v w x y. let one = y.one in omega (arith, x, one)) a.lanes s.lanes;
        parts = each_on (HasMineWithin (length before)) IsStep (HasMineWithin (length (answer ∷ before))) old.parts.views mid.parts.views new.parts.views
            (λ u v w x y. let one = y.one in omega (arith, x, one)) a.parts s.parts;
      }

  pub played_within : (dids : List Did) (old new : HandView S L) → PlaysSteps left lent_as fault_plan read_of batch alone most_steps dids old new → length dids ≤ most_steps
  played_within [] old new e = omega arith
  played_within (answer ∷ before) old new p = let s = (goes most_steps before p.0).steps in omega (arith, s)

have_within : {S L : Type 0} (entries most : ℕ) (old new : HandView S L) → entries ≤ most → HaveMineWithin entries old new → HaveMineWithin most old new
have_within entries most old new within a = record {
  lanes = each_as (HasMineWithin entries) (HasMineWithin most) old.lanes.views new.lanes.views (λ v w h. omega (arith, within, h)) a.lanes;
  parts = each_as (HasMineWithin entries) (HasMineWithin most) old.parts.views new.parts.views (λ v w h. omega (arith, within, h)) a.parts;
}

module _ {S L : Type 0} (left lent_as : S → Option (List ℕ)) (fault_plan : S → Option FaultPlan) (read_of : L → Reads) (batch : ℕ) (alone : List Bool) (most_steps : ℕ) where
  pub ran_later : (answer : Option HandFault) (old new : HandView S L) → Ran left lent_as fault_plan read_of batch alone most_steps answer old new → AreLater old new
  ran_later answer old new ran = played_later left lent_as fault_plan read_of batch alone most_steps ran.dids old new ran.played

  pub ran_within : (answer : Option HandFault) (old new : HandView S L) → Ran left lent_as fault_plan read_of batch alone most_steps answer old new
      → HaveMineWithin most_steps old new
  ran_within answer old new ran =
      have_within (length ran.dids) most_steps old new (played_within left lent_as fault_plan read_of batch alone most_steps ran.dids old new ran.played)
      (played_bound left lent_as fault_plan read_of batch alone most_steps ran.dids old new ran.played)

  -- the latest step met the fault
  meets : (dids : List Did) (f : HandFault) (old new : HandView S L) → PlaysSteps left lent_as fault_plan read_of batch alone most_steps dids old new
      → Some f ≡ fault_of dids → MeetsFault left lent_as fault_plan read_of batch alone most_steps f old new
  meets [] f old new played told = absurd (none-some f (sym told))
  meets (did.Nothing ∷ before) f old new played told = absurd (none-some f (sym told))
  meets (did.Fed lane ∷ before) f old new played told = absurd (none-some f (sym told))
  meets (did.Turned part ∷ before) f old new played told = absurd (none-some f (sym told))
  meets (did.Fault fault ∷ before) f old new (on, mid, played, step) told = record {
    mid = mid;
    dids = before;
    played = played;
    goes = on;
    last = subst (λ (x : HandFault). Steps left lent_as fault_plan read_of batch alone (did.Fault x) mid new) (sym (same_Some f fault told)) step;
  }

  pub ran_meets : (answer : Option HandFault) (old new : HandView S L) → Ran left lent_as fault_plan read_of batch alone most_steps answer old new
      → IfSome answer (λ f. MeetsFault left lent_as fault_plan read_of batch alone most_steps f old new)
  ran_meets None old new ran = tt
  ran_meets (Some f) old new ran = meets ran.dids f old new ran.played ran.told

  -- without a fault it stopped behind a step that found nothing to do, or behind all its steps
  all_done : (dids : List Did) → is_none (fault_of dids) ≡ true → not (may_go_on most_steps dids) ≡ true → most_steps ≤ length dids
  all_done dids none stops = by (and_cases (is_none (fault_of dids)) (nat_lt (length dids) most_steps) (flipped (may_go_on most_steps dids) stops))
    where
      flipped : (b : Bool) → not b ≡ true → b ≡ false
      flipped true e = absurd (false≢true e)
      flipped false e = refl

      by : (is_none (fault_of dids) ≡ false) ⊎ (nat_lt (length dids) most_steps ≡ false) → most_steps ≤ length dids
      by (inl e) = absurd (false≢true (sym e ∙ none))
      by (inr e) = ltb-false (length dids) most_steps e

  rests : (dids : List Did) (old new : HandView S L) → PlaysSteps left lent_as fault_plan read_of batch alone most_steps dids old new → None ≡ fault_of dids
      → may_stop most_steps dids ≡ true → EndsIdle left lent_as fault_plan read_of batch alone most_steps old new
  rests (did.Nothing ∷ before) old new (on, mid, played, step) told stops = inl (mid, step)
  rests [] old new played told stops = inr ([], played, let a = all_done [] refl stops in omega (arith, a))
  rests (did.Fed lane ∷ before) old new played told stops =
      let a = all_done (did.Fed lane ∷ before) refl stops in
      let b = played_within left lent_as fault_plan read_of batch alone most_steps (did.Fed lane ∷ before) old new played in
      inr (did.Fed lane ∷ before, played, omega (arith, a, b))
  rests (did.Turned part ∷ before) old new played told stops =
      let a = all_done (did.Turned part ∷ before) refl stops in
      let b = played_within left lent_as fault_plan read_of batch alone most_steps (did.Turned part ∷ before) old new played in
      inr (did.Turned part ∷ before, played, omega (arith, a, b))
  rests (did.Fault fault ∷ before) old new played told stops = absurd (none-some fault told)

  pub ran_rests : (answer : Option HandFault) (old new : HandView S L) → Ran left lent_as fault_plan read_of batch alone most_steps answer old new
      → IfNone answer (EndsIdle left lent_as fault_plan read_of batch alone most_steps old new)
  ran_rests (Some f) old new ran = tt
  ran_rests None old new ran = rests ran.dids old new ran.played ran.told ran.stops

  -- ---- one step more
  -- how far a hand has come that may go on
  pub record Going (steps : ℕ) (old new : HandView S L) : Type 0 where
    pub dids : List Did
    pub played : PlaysSteps left lent_as fault_plan read_of batch alone most_steps dids old new
    pub no_fault : is_none (fault_of dids) ≡ true
    pub steps_are : length dids ≡ steps

  goes_from : (steps : ℕ) (old new : HandView S L) (g : Going steps old new) → steps < most_steps → may_go_on most_steps g.dids ≡ true
  goes_from steps old new g more =
      let s = g.steps_are in
      and_from (is_none (fault_of g.dids)) (nat_lt (length g.dids) most_steps) g.no_fault (lt-ltb (length g.dids) most_steps (omega (arith, s, more)))

  pub going_first : (old : HandView S L) → Going 0 old old
  going_first old = record { dids = []; played = refl; no_fault = refl; steps_are = refl }

  module _ (steps : ℕ) (old mid new : HandView S L) (g : Going steps old mid) (more : steps < most_steps) where
    -- behind a step without a fault
    pub going_on : (answer : Did) → is_none (fault_of (answer ∷ g.dids)) ≡ true → Steps left lent_as fault_plan read_of batch alone answer mid new → Going (steps + 1) old new
    going_on answer fine step = record {
      dids = answer ∷ g.dids;
      played = (goes_from steps old mid g more, mid, g.played, step);
      no_fault = fine;
      steps_are = let s = g.steps_are in omega (arith, s);
    }

    pub ran_fault : (f : HandFault) → Steps left lent_as fault_plan read_of batch alone (did.Fault f) mid new
        → Ran left lent_as fault_plan read_of batch alone most_steps (Some f) old new
    ran_fault f step = record {
      dids = did.Fault f ∷ g.dids;
      played = (goes_from steps old mid g more, mid, g.played, step);
      stops = refl;
      told = refl;
    }

    pub ran_idle : Steps left lent_as fault_plan read_of batch alone did.Nothing mid new → Ran left lent_as fault_plan read_of batch alone most_steps None old new
    ran_idle step = record {
      dids = did.Nothing ∷ g.dids;
      played = (goes_from steps old mid g more, mid, g.played, step);
      stops = refl;
      told = refl;
    }

  -- after all its steps
  pub ran_all : (steps : ℕ) (old new : HandView S L) → Going steps old new → most_steps ≤ steps → Ran left lent_as fault_plan read_of batch alone most_steps None old new
  ran_all steps old new g all = record {
    dids = g.dids;
    played = g.played;
    stops = let s = g.steps_are in
        either (is_idle g.dids) (may_go_on most_steps g.dids) (ends_all most_steps g.dids (omega (arith, s, all)));
    told = none_told (fault_of g.dids) g.no_fault;
  }
    where
      either : (a b : Bool) → b ≡ false → a || not b ≡ true
      either true b e = refl
      either false true e = absurd (false≢true (sym e))
      either false false e = refl

      none_told : (f : Option HandFault) → is_none f ≡ true → None ≡ f
      none_told None h = refl
      none_told (Some x) h = absurd (false≢true h)
