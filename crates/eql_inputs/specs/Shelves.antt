-- What a shelf tells of a call that reads its files: what was counted, what it keeps, what it lent, and when no call of it fails.
use Rattle.std.specs.Prelude.{◌≡◌, ◌≤◌, ◌+◌, ℕ, List, Option, Some, None, IfErr, IfSome, MatchResult, Result, refl}
use Rattle.eql_outside.specs.Faults.{FaultsAreSame}
use Rattle.eql_outside.specs.Plans.{FaultPlan}
use Rattle.eql_outside.specs.Unfailing.{IsUnfailing, AreUnfailing}
use Rattle.eql_outside.specs.declared.shelf.Shelf as shelves
use Rattle.eql_runs.specs.Outcomes.{DiskIsSame}
use Rattle.eql_inputs.specs.declared.error.InputError.{InputError}
use Rattle.eql_inputs.specs.Errors.{AbsencesFollow, CountFollows, FaultsFollow, IsNoFault}

-- so many more sources are lent than before, where the shelf tells
abbrev pub LendsMore : ℕ → Option ℕ → Option ℕ → Type 0
LendsMore n before now = IfSome before (λ lent. now ≡ Some (lent + n))

-- as many are lent as before
abbrev pub LendsAsMany : Option ℕ → Option ℕ → Type 0
LendsAsMany before now = IfSome before (λ lent. now ≡ Some lent)

-- a shelf tells its plan and those of its sources, and by these no call of it and no take of a source fails
abbrev pub NeverFails : Option FaultPlan → Option (List (List ℕ × List ℕ)) → Type 0
NeverFails plan plans = IsUnfailing plan × AreUnfailing plans

module _ {H Src Dsk : Type 0} (shelf : shelves.Ghosts H Src Dsk) where
  -- by what a shelf tells, it is before and after a call the same in its files, the plans of their sources and its disk
  pub record KeepsShelf (old new : H) : Type 0 where
    pub files_are : shelf.files new ≡ shelf.files old
    pub plans_are : shelf.source_plans new ≡ shelf.source_plans old
    pub disk_is : DiskIsSame shelf old new

  -- the counts of faults and of absences follow what a call returned, and none falls
  pub record CountsAreTold {A : Type 0} (old new : H) (answer : Result A InputError) : Type 0 where
    pub faults : MatchResult answer (λ _. FaultsAreSame (shelf.faults_of old) (shelf.faults_of new))
        (λ error. FaultsFollow error (shelf.faults_of old) (shelf.faults_of new))
    pub count : MatchResult answer (λ _. shelf.fault_count new ≡ shelf.fault_count old)
        (λ error. CountFollows error (shelf.fault_count old) (shelf.fault_count new))
    pub absences : MatchResult answer (λ _. shelf.absent_count new ≡ shelf.absent_count old)
        (λ error. AbsencesFollow error (shelf.absent_count old) (shelf.absent_count new))
    pub faults_rise : shelf.fault_count old ≤ shelf.fault_count new
    pub absences_rise : shelf.absent_count old ≤ shelf.absent_count new

  -- nothing else changes, and all that was lent came back. Where no call of the shelf fails, no read fault is returned
  pub record ReadsShelf {A : Type 0} (old new : H) (answer : Result A InputError) : Type 0 where
    pub told : CountsAreTold old new answer
    pub kept : KeepsShelf old new
    pub lent : LendsAsMany (shelf.lent_count old) (shelf.lent_count new)
    pub unfailing : NeverFails (shelf.fault_plan old) (shelf.source_plans old)
        → IfErr answer IsNoFault × NeverFails (shelf.fault_plan new) (shelf.source_plans new)

  -- the same of a call that lends so many sources where it returns what is `Ok`. Where no call of the shelf fails, they are sound
  pub record OpensShelf {A : Type 0} (many : ℕ) (IsSound : A → Type 0) (old new : H) (answer : Result A InputError) : Type 0 where
    pub told : CountsAreTold old new answer
    pub kept : KeepsShelf old new
    pub lent : MatchResult answer (λ _. LendsMore many (shelf.lent_count old) (shelf.lent_count new))
        (λ _. LendsAsMany (shelf.lent_count old) (shelf.lent_count new))
    pub unfailing : NeverFails (shelf.fault_plan old) (shelf.source_plans old)
        → MatchResult answer IsSound IsNoFault × NeverFails (shelf.fault_plan new) (shelf.source_plans new)

-- of a shelf that had lent 2, and of one that doesn't tell
pub one_more : LendsMore 1 (Some 2) (Some 3)
one_more = refl

pub untold : LendsMore 1 None None
untold = tt
