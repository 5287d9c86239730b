-- What a call of a shelf leaves as it was, and which counts it raises. A shelf is told by its ghost members.
use Rattle.std.specs.Prelude.{◌≡◌, ◌≤◌, ℕ, Bool, List, Option}
use Rattle.eql_outside.specs.declared.refused.DiskHeld.{DiskHeld}
use Rattle.eql_outside.specs.Faults.{FaultsAreSame, RoseUnder}
use Rattle.eql_outside.specs.Moments.{History}
use Rattle.eql_outside.specs.Outside.{Rose}
use Rattle.eql_outside.specs.Plans.{FaultPlan}

-- a count rises in a call of which this holds, stays in any other, and falls in none
pub record RisesWhere {S : Type 0} (count : S → ℕ) (holds : Type 0) (before now : S) : Type 0 where
  pub rose : holds → Rose (count before) (count now)
  pub same : ¬ holds → count now ≡ count before
  pub rises : count before ≤ count now

-- the same of the counts by name, of which that of this name alone rises
pub record RisesUnderWhere {S : Type 0} (counts : S → List ℕ → ℕ) (name : Option (List ℕ)) (holds : Type 0) (before now : S) : Type 0 where
  pub rose : holds → RoseUnder name (counts before) (counts now)
  pub same : ¬ holds → FaultsAreSame (counts before) (counts now)

-- what is told of the disk is as before
pub record KeepsDisk {S : Type 0} (history : S → Option History) (out : S → Bool) (faults : S → ℕ) (plan : S → Option FaultPlan)
    (held : S → DiskHeld → ℕ) (free : S → Bool) (before now : S) : Type 0 where
  pub history_is : history now ≡ history before
  pub out_is : out now ≡ out before
  pub faults_are : faults now ≡ faults before
  pub plan_is : plan now ≡ plan before
  pub held_are : (why : DiskHeld) → held now why ≡ held before why
  pub free_is : free now ≡ free before

-- what is told of the files and their sources is as before
pub record KeepsSources {S : Type 0} (files plans : S → Option (List (List ℕ × List ℕ))) (faults absences : S → ℕ)
    (names : S → List ℕ → ℕ) (lent : S → Option ℕ) (before now : S) : Type 0 where
  pub files_are : files now ≡ files before
  pub plans_are : plans now ≡ plans before
  pub faults_are : faults now ≡ faults before
  pub absences_are : absences now ≡ absences before
  pub names_are : FaultsAreSame (names before) (names now)
  pub lent_are : lent now ≡ lent before
