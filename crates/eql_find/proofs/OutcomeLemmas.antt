-- Calls before a run, which leave its shelf as it was in its counts or on its disk.
use native.Mathlib.Omega.{arith}
use Rattle.std.proofs.Common.{◌≡◌, ◌≤◌, ℕ, None, ap, subst}
use Rattle.std.specs.Prelude.{Result}
use Rattle.eql_outside.specs.Faults.{FaultsAreSame}
use Rattle.eql_outside.specs.declared.shelf.Shelf as shelves
use Rattle.eql_outside.specs.declared.sink.Sink as sinks
use Rattle.eql_runs.specs.Outcomes.{DiskIsSame}
use Rattle.eql_find.specs.declared.error.FindError.{FindError}
use Rattle.eql_find.specs.Errors.{AbsencesFollow, DiskFollows, HeldIsTold, reason_told}
use Rattle.eql_find.specs.Outcomes.{FaultsAreTold}
use Rattle.eql_find.proofs.HeldLemmas.{held_then}
use Rattle.eql_find.proofs.ShardLemmas.{count_then, faults_then}

-- a count that stays doesn't fall
pub none_falls : (before now : ℕ) → now ≡ before → before ≤ now
none_falls before now same = omega arith

-- nor does one that stays and then rises, or rises and then stays
pub rises_then : (before mid now : ℕ) → mid ≡ before → mid ≤ now → before ≤ now
rises_then before mid now same rise = omega arith

pub then_stays : (before mid now : ℕ) → before ≤ mid → now ≡ mid → before ≤ now
then_stays before mid now rise same = omega arith

module _ {H Src Dsk : Type 0} (shelf : shelves.Ghosts H Src Dsk) where
  -- the disk of the same shelf is the same
  pub same_disk : (old new : H) → new ≡ old → DiskIsSame shelf old new
  same_disk old new same = record {
    history_is = ap shelf.disk_history same;
    out_is = ap shelf.is_out same;
    faults_are = ap shelf.disk_fault_count same;
    plan_is = ap shelf.disk_plan same;
    held_are = λ why. ap (λ (s : H). shelf.held_count s why) same;
    free_is = ap shelf.is_free same;
  }

  -- a call that changes no count, before a run
  module _ {K E : Type 0} (output : sinks.Ghosts K) (errors : sinks.Ghosts E) where
    pub told_then : (old mid new : H) (out out' : K) (err err' : E) (r : Result (Unit {0}) FindError)
        → FaultsAreSame (shelf.faults_of old) (shelf.faults_of mid) → shelf.fault_count mid ≡ shelf.fault_count old
        → shelf.absent_count mid ≡ shelf.absent_count old → shelf.disk_fault_count mid ≡ shelf.disk_fault_count old
        → HeldIsTold shelf old mid None
        → FaultsAreTold output errors shelf mid new (shelf.disk_fault_count mid) (shelf.disk_fault_count new) out out' err err' r
        → FaultsAreTold output errors shelf old new (shelf.disk_fault_count old) (shelf.disk_fault_count new) out out' err err' r
    told_then old mid new out out' err err' r names reads absences disks held told = record {
      faults = faults_then (shelf.faults_of old) (shelf.faults_of mid) (shelf.faults_of new) names r told.faults;
      count = count_then (shelf.fault_count old) (shelf.fault_count mid) (shelf.fault_count new) reads r told.count;
      absences = subst (λ (n : ℕ). AbsencesFollow r n (shelf.absent_count new)) absences told.absences;
      disk = subst (λ (n : ℕ). DiskFollows r n (shelf.disk_fault_count new)) disks told.disk;
      held = held_then shelf (reason_told r) old mid new held told.held;
      out = told.out;
      err = told.err;
      reads_rise = rises_then (shelf.fault_count old) (shelf.fault_count mid) (shelf.fault_count new) reads told.reads_rise;
      absences_rise = rises_then (shelf.absent_count old) (shelf.absent_count mid) (shelf.absent_count new) absences told.absences_rise;
      disks_rise = rises_then (shelf.disk_fault_count old) (shelf.disk_fault_count mid) (shelf.disk_fault_count new) disks told.disks_rise;
      writes_rise = told.writes_rise;
      errors_rise = told.errors_rise;
    }
