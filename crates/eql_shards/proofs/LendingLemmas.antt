-- How many sources are lent as shards are opened, and what a shelf tells where that stopped and they went back.
use native.Mathlib.Omega.{arith}
use Rattle.std.proofs.Common.{◌≡◌, ℕ, ◌+◌, ◌-◌, ◌≤◌, List, Option, Some, None, Result, Err, ap, sym, ◌∙◌, subst, length}
use Rattle.std.specs.Prelude.{All}
use Rattle.std.specs.Option.{IfSome}
use Rattle.eql_outside.specs.Faults.{FaultsAreSame}
use Rattle.eql_outside.specs.Outside.{Rose}
use Rattle.eql_outside.specs.Plans.{FaultPlan}
use Rattle.eql_outside.specs.Unfailing.{AreUnfailing, IsUnfailing}
use Rattle.eql_outside.specs.declared.shelf.Shelf as shelves
use Rattle.eql_inputs.specs.declared.error.InputError.{InputError}
use Rattle.eql_inputs.specs.declared.error.InputError.TheVariants as error
use Rattle.eql_inputs.specs.Errors.{AbsencesFollow, CountFollows, FaultsFollow, IsNoFault}
use Rattle.eql_inputs.specs.Shelves.{CountsAreTold, KeepsShelf, LendsAsMany, LendsMore, NeverFails, OpensShelf}
use Rattle.eql_shards.specs.Giving.{TakesBack, return_of}
use Rattle.eql_inputs.proofs.ErrorLemmas.{same_later}
use Rattle.eql_inputs.proofs.ShelfLemmas.{keeps_later}
use Rattle.eql_shards.proofs.BackLemmas.{none_failed}

-- no source is lent, some are and then others, and as many come back
pub lends_none : (before : Option ℕ) → LendsMore 0 before before
lends_none None = tt
lends_none (Some n) = ap Some (omega arith)

pub lends_on : (i j k : ℕ) (before mid now : Option ℕ) → i + j ≡ k → LendsMore i before mid → LendsMore j mid now → LendsMore k before now
lends_on i j k None mid now is first then = tt
lends_on i j k (Some n) mid now is first then =
    subst (λ (x : Option ℕ). LendsMore j x now) first then ∙ ap Some (omega (arith, is))

pub lends_still : (n : ℕ) (before mid now : Option ℕ) → LendsMore n before mid → LendsAsMany mid now → LendsMore n before now
lends_still n None mid now first then = tt
lends_still n (Some k) mid now first then = subst (λ (x : Option ℕ). LendsAsMany x now) first then

lends_back : (n : ℕ) (before mid now : Option ℕ) → LendsMore n before mid → IfSome mid (λ k. now ≡ Some (k - n)) → LendsAsMany before now
lends_back n None mid now first then = tt
lends_back n (Some k) mid now first then =
    subst (λ (x : Option ℕ). IfSome x (λ k. now ≡ Some (k - n))) first then ∙ ap Some (omega arith)

-- a call in which no count changes, behind one that stopped
faults_stay : (e : InputError) (a b c : List ℕ → ℕ) → FaultsFollow e a b → FaultsAreSame b c → FaultsFollow e a c
faults_stay (error.Refused r) a b c first then = same_later a b c first then
faults_stay (error.Read n) a b c first then = record {
  rose = subst (λ (x : ℕ). Rose (a n.now) x) (sym (then n.now)) first.rose;
  others = λ other differ. then other ∙ first.others other differ;
  counts = λ any. subst (λ (x : ℕ). a any ≤ x) (sym (then any)) (first.counts any);
}
faults_stay error.Memory a b c first then = same_later a b c first then

module _ {H Src Dsk : Type 0} (shelf : shelves.Ghosts H Src Dsk) where
  told_still : {A B : Type 0} (e : InputError) (old mid new : H) → CountsAreTold shelf old mid (let r : Result A InputError = Err e in r)
      → FaultsAreSame (shelf.faults_of mid) (shelf.faults_of new) → shelf.fault_count new ≡ shelf.fault_count mid
      → shelf.absent_count new ≡ shelf.absent_count mid → CountsAreTold shelf old new (let r : Result B InputError = Err e in r)
  told_still e old mid new told faults count absences =
      let more = told.faults_rise in let further = told.absences_rise in
      record {
        faults = faults_stay e _ _ _ told.faults faults;
        count = subst (λ (n : ℕ). CountFollows e (shelf.fault_count old) n) (sym count) told.count;
        absences = subst (λ (n : ℕ). AbsencesFollow e (shelf.absent_count old) n) (sym absences) told.absences;
        faults_rise = omega (arith, count, more);
        absences_rise = omega (arith, absences, further);
      }

  -- opening stopped, and the sources that were opened went back
  pub went_back : {A B : Type 0} (many : ℕ) (IsSound : A → Type 0) (Opened : Type 0) (lent_as : Src → Option (List ℕ)) (faults : Src → ℕ)
      (given : List Src) (e : InputError) (old mid new : H) → All (λ source. faults source ≡ 0) given
      → CountsAreTold shelf old mid (let r : Result B InputError = Err e in r)
      → KeepsShelf shelf old mid
      → LendsMore (length given) (shelf.lent_count old) (shelf.lent_count mid)
      → (NeverFails (shelf.fault_plan old) (shelf.source_plans old)
      → IsNoFault e × Opened × NeverFails (shelf.fault_plan mid) (shelf.source_plans mid))
      → TakesBack shelf (return_of lent_as faults) given mid new
      → OpensShelf shelf many IsSound old new (let r : Result A InputError = Err e in r)
  went_back many IsSound Opened lent_as faults given e old mid new fresh told kept lent sound took =
      let same = took.came.none (none_failed lent_as faults given fresh) in
      record {
        told = told_still e old mid new told same.1 same.0 took.absences_are;
        kept = keeps_later kept took.kept;
        lent = lends_back (length given) _ _ _ lent took.lent;
        unfailing = λ never.
            let so = sound never in (
              so.0,
              (
                subst (λ (p : Option FaultPlan). IsUnfailing p) (sym took.plan_is) so.2.0,
                subst (λ (ps : Option (List (List ℕ × List ℕ))). AreUnfailing ps) (sym took.kept.plans_are) so.2.1,
              ),
            );
      }
