-- How a run of the program ended: what its status says of the words, the files, the sinks and the disk.
use Rattle.std.specs.Prelude.{◌≡◌, ◌≢◌, ◌⊎◌, ◌≤◌, ◌<◌, ℕ, List, Option, Some, None, IfSome, true, false}
use Rattle.eql_outside.specs.Keeping.{KeepsDisk}
use Rattle.eql_outside.specs.Moments.{DiskTells, History}
use Rattle.eql_outside.specs.Outside.{Rose}
use Rattle.eql_outside.specs.Unfailing.{AreUnfailing, IsUnfailing}
use Rattle.eql_outside.specs.declared.refused.DiskHeld.{DiskHeld}
use Rattle.eql_outside.specs.declared.shelf.Shelf as shelves
use Rattle.eql_outside.specs.declared.sink.Sink as sinks
use Rattle.eql_words.specs.declared.commands.Command.TheVariants as command
use Rattle.eql_words.specs.declared.commands.Find.{Find}
use Rattle.eql_words.specs.Commands.{command_of}
use Rattle.eql_ckdisk.specs.Going.{Goes}
use Rattle.eql_ckdisk.specs.Keeping.{LeavesNoMore}
use Rattle.eql_runs.specs.Files.{Files}
use Rattle.eql_runs.specs.Runs.{AskDisk, IfTold, IsAccepted, IsReady, IsRefusedAs, KeepsCuts, ReachesLimit, TellsFront, WroteAll, WroteListing, WroteSome}

-- words that are a command which keeps its state on a disk keep their cuts there, and write what they count, which is kept
abbrev pub KeepDisk :
    List (List ℕ) → Option Files → (out out' kept kept' : Option (List ℕ)) → (disk now : Option History) → Type 0
KeepDisk words files out out' kept kept' disk now =
    (find : Find) → command_of words ≡ Some (command.Find find) → find.checkpoint ≢ None
    → DiskTells (KeepsCuts find files out out' kept kept') disk now

-- the words, the files or the cut are refused
abbrev pub IsRefusal : ℕ → Type 0
IsRefusal status = (status ≡ 1) ⊎ (status ≡ 2) ⊎ (status ≡ 3) ⊎ (status ≡ 7)

-- the disk of a shelf is as it was
abbrev pub DiskIsSame : {H Src Dsk : Type 0} → (shelf : shelves.Ghosts H Src Dsk) → (old new : H) → Type 0
DiskIsSame shelf old new =
    KeepsDisk shelf.disk_history shelf.is_out shelf.disk_fault_count shelf.disk_plan shelf.held_count shelf.is_free old new

module _ {H Src Dsk K E : Type 0} (shelf : shelves.Ghosts H Src Dsk) (output : sinks.Ghosts K) (errors : sinks.Ghosts E) where
  -- a run of these words ended with this status. Each field says what the clause of its name at the top call says
  pub record RunEnds (asked : List (List ℕ)) (old new : H) (out out' : K) (err err' : E) (status : ℕ) : Type 0 where
    -- what was written
    pub done : status ≡ 0
        → WroteAll asked (shelf.files old) (shelf.disk_history old) (output.written out) (output.written out') (errors.written err) (errors.written err')
    pub accepted : status ≡ 0 → IfTold asked (shelf.files old) (shelf.disk_history old) (IsAccepted asked)
    pub prefix : status ≢ 0 → WroteSome asked (shelf.files old) (shelf.disk_history old) (output.written out) (output.written out')
    pub listed : status ≡ 5 → ¬ (Rose (output.fault_count out) (output.fault_count out'))
        → WroteListing asked (shelf.files old) (shelf.disk_history old) (output.written out) (output.written out')
    pub refused : IsRefusal status → out' ≡ out
    pub told : status ≢ 0
        → TellsFront asked (shelf.files old) (shelf.disk_history old) (shelf.disk_history new) (shelf.faults_of old) (shelf.faults_of new)
        (shelf.held_count old) (shelf.held_count new) status (errors.written err) (errors.written err')
    -- the cause of each status
    pub absent : status ≡ 1 → Rose (shelf.absent_count old) (shelf.absent_count new)
    pub words : status ≡ 2 → command_of asked ≡ None
    pub no_words : command_of asked ≡ None → (status ≡ 2) ⊎ (status ≡ 8)
    pub read : status ≡ 4 → Rose (shelf.fault_count old) (shelf.fault_count new)
    pub write : status ≡ 5
        → Rose (output.fault_count out) (output.fault_count out') ⊎ Rose (errors.fault_count err) (errors.fault_count err')
    pub disk : status ≡ 6 → Rose (shelf.disk_fault_count old) (shelf.disk_fault_count new)
    pub cut : status ≡ 7 → AskDisk asked
    pub limit : status ≡ 9 → ReachesLimit asked (shelf.files old) (shelf.disk_history old) (shelf.disk_history new)
    -- no fault, no absence and no reason for which the disk is held is passed over
    pub reads_told : shelf.fault_count old < shelf.fault_count new → status ≡ 4
    pub absences_told : shelf.absent_count old < shelf.absent_count new → status ≡ 1
    pub writes_told : output.fault_count out < output.fault_count out' → (status ≡ 5) ⊎ (status ≡ 4)
    pub disks_told : shelf.disk_fault_count old < shelf.disk_fault_count new → (status ≡ 6) ⊎ (status ≡ 4)
    pub held_told : (why : DiskHeld) → shelf.held_count old why < shelf.held_count new why → status ≡ 7
    pub errors_told : errors.fault_count err < errors.fault_count err' → status ≢ 0
    -- what ends well
    pub complete : IsReady asked (shelf.files old) (shelf.disk_history old)
        → ¬ (Rose (shelf.fault_count old) (shelf.fault_count new))
        → (AskDisk asked → ¬ (Rose (shelf.disk_fault_count old) (shelf.disk_fault_count new)))
        → (AskDisk asked → (why : DiskHeld) → ¬ (Rose (shelf.held_count old why) (shelf.held_count new why)))
        → ¬ (Rose (output.fault_count out) (output.fault_count out'))
        → ¬ (Rose (errors.fault_count err) (errors.fault_count err'))
        → (status ≡ 0) ⊎ (status ≡ 8)
    pub grounded : IsReady asked (shelf.files old) (shelf.disk_history old)
        → IsUnfailing (shelf.fault_plan old) → AreUnfailing (shelf.source_plans old)
        → (AskDisk asked → IsUnfailing (shelf.disk_plan old)) → (AskDisk asked → shelf.is_free old ≡ true)
        → IsUnfailing (output.fault_plan out) → IsUnfailing (errors.fault_plan err)
        → (status ≡ 0) ⊎ (status ≡ 8)
    pub exact : ¬ (Rose (shelf.fault_count old) (shelf.fault_count new))
        → (AskDisk asked → ¬ (Rose (shelf.disk_fault_count old) (shelf.disk_fault_count new)))
        → IsRefusedAs asked (shelf.files old) (shelf.disk_history old) status
    -- what stays of the shelf, and what the disk holds
    pub kept : shelf.files new ≡ shelf.files old
    pub lent : IfSome (shelf.lent_count old) (λ n. shelf.lent_count new ≡ Some n)
    pub back : shelf.is_out old ≡ false → shelf.is_out new ≡ false
    pub cut_kept : IsRefusal status → DiskTells (Goes LeavesNoMore) (shelf.disk_history old) (shelf.disk_history new)
    pub moments :
        KeepDisk asked (shelf.files old) (output.written out) (output.written out') (output.kept out) (output.kept out')
        (shelf.disk_history old) (shelf.disk_history new)
    pub disk_kept : ¬ (AskDisk asked) → DiskIsSame shelf old new
    -- no count falls
    pub reads_rise : shelf.fault_count old ≤ shelf.fault_count new
    pub absences_rise : shelf.absent_count old ≤ shelf.absent_count new
    pub disks_rise : shelf.disk_fault_count old ≤ shelf.disk_fault_count new
    pub held_rise : (why : DiskHeld) → shelf.held_count old why ≤ shelf.held_count new why
    pub writes_rise : output.fault_count out ≤ output.fault_count out'
    pub errors_rise : errors.fault_count err ≤ errors.fault_count err'
