-- Why a run stops, and what its counts of faults say then.
use Rattle.std.specs.Prelude.{◌≡◌, ◌≢◌, ◌≤◌, ℕ, true, List, Option, None, Some, Result, Ok, Err}
use Rattle.eql_outside.specs.Outside.{Rose}
use Rattle.eql_outside.specs.Faults.{FaultsAreSame}
use Rattle.eql_outside.specs.declared.refused.DiskHeld.{DiskHeld}
use Rattle.eql_outside.specs.declared.refused.OutRefused.TheVariants as refused_by
use Rattle.eql_outside.specs.declared.shelf.Shelf as shelves
use Rattle.eql_lane.specs.declared.ops.ShardLimit.{ShardLimit}
use Rattle.eql_lane.specs.declared.ops.ShardLimit.TheVariants as limit
use Rattle.eql_runs.specs.CutRefusals.{CutRefusal, foreign, damaged, differs, unfit, short, other_bytes, no_line, grown}
use Rattle.eql_runs.specs.Runs.{many_lines, many_bytes}
use Rattle.eql_runs.specs.Runs as runs
use Rattle.eql_inputs.specs.declared.error.InputError.{InputError}
use Rattle.eql_inputs.specs.declared.error.InputError.TheVariants as input
use Rattle.eql_inputs.specs.Errors.{status_of}
use Rattle.eql_inputs.specs.Errors as inputs
use Rattle.eql_find.specs.declared.error.CutStop.{CutStop}
use Rattle.eql_find.specs.declared.error.CutStop.TheVariants as cut
use Rattle.eql_find.specs.declared.error.FindError.{FindError}
use Rattle.eql_find.specs.declared.error.FindError.TheVariants as run

-- the status of a run that stops so
abbrev pub run_status_of : FindError → ℕ
run_status_of (run.Files h) = status_of h
run_status_of (run.Cut why) = 7
run_status_of (run.Held why) = 7
run_status_of run.Disk = 6
run_status_of run.Write = 5
run_status_of (run.Limit l) = 9
run_status_of run.Generation = 9
run_status_of (run.Report refused_by.Failed) = 5
run_status_of (run.Report refused_by.Memory) = 8

-- the limit, in the words of runs
abbrev pub limit_of : ShardLimit → runs.ShardLimit
limit_of (limit.Lines shard) = many_lines shard
limit_of (limit.Bytes shard) = many_bytes shard

-- why the cut is refused, in the words of runs
abbrev pub cut_refusal_of : CutStop → CutRefusal
cut_refusal_of (cut.Foreign area) = foreign area
cut_refusal_of (cut.Damaged area at) = damaged area at
cut_refusal_of (cut.Differs d) = differs d
cut_refusal_of cut.Unfit = unfit
cut_refusal_of (cut.Short shard offset had) = short shard offset had
cut_refusal_of (cut.OtherBytes shard) = other_bytes shard
cut_refusal_of (cut.NoLine shard line) = no_line shard line
cut_refusal_of (cut.Grown shard) = grown shard

-- the files, the disk that is held, or its cut are refused
abbrev pub IsRefusal : FindError → Type 0
IsRefusal (run.Files (input.Refused r)) = Unit {0}
IsRefusal (run.Files (input.Read name)) = ⊥
IsRefusal (run.Files input.Memory) = ⊥
IsRefusal (run.Cut why) = Unit {0}
IsRefusal (run.Held why) = Unit {0}
IsRefusal run.Disk = ⊥
IsRefusal run.Write = ⊥
IsRefusal (run.Limit l) = ⊥
IsRefusal run.Generation = ⊥
IsRefusal (run.Report r) = ⊥

-- nothing was written of the report
abbrev pub TellsNothing : FindError → Type 0
TellsNothing (run.Files h) = Unit {0}
TellsNothing (run.Cut why) = Unit {0}
TellsNothing (run.Held why) = Unit {0}
TellsNothing run.Disk = Unit {0}
TellsNothing run.Write = Unit {0}
TellsNothing (run.Limit l) = Unit {0}
TellsNothing run.Generation = Unit {0}
TellsNothing (run.Report r) = ⊥

-- the report isn't written whole
abbrev pub IsReport : FindError → Type 0
IsReport (run.Files h) = ⊥
IsReport (run.Cut why) = ⊥
IsReport (run.Held why) = ⊥
IsReport run.Disk = ⊥
IsReport run.Write = ⊥
IsReport (run.Limit l) = ⊥
IsReport run.Generation = ⊥
IsReport (run.Report r) = Unit {0}

-- a file, the disk, the output or the error output failed
abbrev pub IsFault : FindError → Type 0
IsFault (run.Files (input.Refused r)) = ⊥
IsFault (run.Files (input.Read name)) = Unit {0}
IsFault (run.Files input.Memory) = ⊥
IsFault (run.Cut why) = ⊥
IsFault (run.Held why) = ⊥
IsFault run.Disk = Unit {0}
IsFault run.Write = Unit {0}
IsFault (run.Limit l) = ⊥
IsFault run.Generation = ⊥
IsFault (run.Report refused_by.Failed) = Unit {0}
IsFault (run.Report refused_by.Memory) = ⊥

-- the faults of this name rose in a call, and those of no name are fewer
pub record RoseAmong (name : List ℕ) (before now : List ℕ → ℕ) : Type 0 where
  pub rose : Rose (before name) (now name)
  pub counts : (any : List ℕ) → before any ≤ now any

-- several files may fail at once, of which one is told: those of its name rose. Where none is told, none did
abbrev pub FileFaultsFollow : InputError → (before now : List ℕ → ℕ) → Type 0
FileFaultsFollow (input.Refused r) before now = FaultsAreSame before now
FileFaultsFollow (input.Read name) before now = RoseAmong name.now before now
FileFaultsFollow input.Memory before now = FaultsAreSame before now

-- the count of something else is as it was, but where a read fault is told: then that may have failed too
abbrev pub IsLeftBy : InputError → (before now : ℕ) → Type 0
IsLeftBy (input.Refused r) before now = now ≡ before
IsLeftBy (input.Read name) before now = Unit {0}
IsLeftBy input.Memory before now = now ≡ before

-- the faults of each name: those of a file that is told as failed rose, and where none is told none did
abbrev pub FaultsFollow : {A : Type 0} → Result A FindError → (before now : List ℕ → ℕ) → Type 0
FaultsFollow (Ok done) before now = FaultsAreSame before now
FaultsFollow (Err (run.Files h)) before now = FileFaultsFollow h before now
FaultsFollow (Err (run.Cut why)) before now = FaultsAreSame before now
FaultsFollow (Err (run.Held why)) before now = FaultsAreSame before now
FaultsFollow (Err run.Disk) before now = FaultsAreSame before now
FaultsFollow (Err run.Write) before now = FaultsAreSame before now
FaultsFollow (Err (run.Limit l)) before now = FaultsAreSame before now
FaultsFollow (Err run.Generation) before now = FaultsAreSame before now
FaultsFollow (Err (run.Report r)) before now = FaultsAreSame before now

-- the count of all read faults rose where one is told, and nowhere else
abbrev pub CountFollows : {A : Type 0} → Result A FindError → (before now : ℕ) → Type 0
CountFollows (Ok done) before now = now ≡ before
CountFollows (Err (run.Files h)) before now = inputs.CountFollows h before now
CountFollows (Err (run.Cut why)) before now = now ≡ before
CountFollows (Err (run.Held why)) before now = now ≡ before
CountFollows (Err run.Disk) before now = now ≡ before
CountFollows (Err run.Write) before now = now ≡ before
CountFollows (Err (run.Limit l)) before now = now ≡ before
CountFollows (Err run.Generation) before now = now ≡ before
CountFollows (Err (run.Report r)) before now = now ≡ before

-- the count of absences rose where a file isn't there, and nowhere else
abbrev pub AbsencesFollow : {A : Type 0} → Result A FindError → (before now : ℕ) → Type 0
AbsencesFollow (Ok done) before now = now ≡ before
AbsencesFollow (Err (run.Files h)) before now = inputs.AbsencesFollow h before now
AbsencesFollow (Err (run.Cut why)) before now = now ≡ before
AbsencesFollow (Err (run.Held why)) before now = now ≡ before
AbsencesFollow (Err run.Disk) before now = now ≡ before
AbsencesFollow (Err run.Write) before now = now ≡ before
AbsencesFollow (Err (run.Limit l)) before now = now ≡ before
AbsencesFollow (Err run.Generation) before now = now ≡ before
AbsencesFollow (Err (run.Report r)) before now = now ≡ before

-- the count of the disk's faults rose where the disk is told as failed, and elsewhere only where a read fault is told
abbrev pub DiskFollows : {A : Type 0} → Result A FindError → (before now : ℕ) → Type 0
DiskFollows (Ok done) before now = now ≡ before
DiskFollows (Err (run.Files h)) before now = IsLeftBy h before now
DiskFollows (Err (run.Cut why)) before now = now ≡ before
DiskFollows (Err (run.Held why)) before now = now ≡ before
DiskFollows (Err run.Disk) before now = Rose before now
DiskFollows (Err run.Write) before now = now ≡ before
DiskFollows (Err (run.Limit l)) before now = now ≡ before
DiskFollows (Err run.Generation) before now = now ≡ before
DiskFollows (Err (run.Report r)) before now = now ≡ before

-- the count of the output's faults rose where a write fault is told, and elsewhere only where a read fault is told
abbrev pub OutFollows : {A : Type 0} → Result A FindError → (before now : ℕ) → Type 0
OutFollows (Ok done) before now = now ≡ before
OutFollows (Err (run.Files h)) before now = IsLeftBy h before now
OutFollows (Err (run.Cut why)) before now = now ≡ before
OutFollows (Err (run.Held why)) before now = now ≡ before
OutFollows (Err run.Disk) before now = now ≡ before
OutFollows (Err run.Write) before now = Rose before now
OutFollows (Err (run.Limit l)) before now = now ≡ before
OutFollows (Err run.Generation) before now = now ≡ before
OutFollows (Err (run.Report r)) before now = now ≡ before

-- the count of the error output's faults rose where it refused the report, and nowhere else
abbrev pub ErrFollows : {A : Type 0} → Result A FindError → (before now : ℕ) → Type 0
ErrFollows (Ok done) before now = now ≡ before
ErrFollows (Err (run.Files h)) before now = now ≡ before
ErrFollows (Err (run.Cut why)) before now = now ≡ before
ErrFollows (Err (run.Held why)) before now = now ≡ before
ErrFollows (Err run.Disk) before now = now ≡ before
ErrFollows (Err run.Write) before now = now ≡ before
ErrFollows (Err (run.Limit l)) before now = now ≡ before
ErrFollows (Err run.Generation) before now = now ≡ before
ErrFollows (Err (run.Report refused_by.Failed)) before now = Rose before now
ErrFollows (Err (run.Report refused_by.Memory)) before now = now ≡ before

-- ---- a disk that is held
-- the reason that is told
abbrev pub reason_in : FindError → Option DiskHeld
reason_in (run.Files h) = None
reason_in (run.Cut why) = None
reason_in (run.Held why) = Some why
reason_in run.Disk = None
reason_in run.Write = None
reason_in (run.Limit l) = None
reason_in run.Generation = None
reason_in (run.Report r) = None

abbrev pub reason_told : {A : Type 0} → Result A FindError → Option DiskHeld
reason_told (Ok done) = None
reason_told (Err error) = reason_in error

-- how often it was held for each reason: for this one that rose, and for no other
pub record RoseAlone (why : DiskHeld) (before now : DiskHeld → ℕ) : Type 0 where
  pub rose : Rose (before why) (now why)
  pub others : (other : DiskHeld) → other ≢ why → now other ≡ before other

-- the same of the one that is told; where none is told none rose
abbrev pub HeldFollows : Option DiskHeld → (before now : DiskHeld → ℕ) → Type 0
HeldFollows None before now = (why : DiskHeld) → now why ≡ before why
HeldFollows (Some why) before now = RoseAlone why before now

module _ {H Src Dsk : Type 0} (shelf : shelves.Ghosts H Src Dsk) where
  -- a shelf's counts follow what is told, and none falls. Where the shelf tells that its disk isn't held, which stays so, no reason is told
  pub record HeldIsTold (old new : H) (told : Option DiskHeld) : Type 0 where
    pub follow : HeldFollows told (shelf.held_count old) (shelf.held_count new)
    pub rise : (why : DiskHeld) → shelf.held_count old why ≤ shelf.held_count new why
    pub free : shelf.is_free old ≡ true → told ≡ None
    pub free_is : shelf.is_free new ≡ shelf.is_free old
