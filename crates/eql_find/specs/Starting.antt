-- What a run begins with, by what the disk of its checkpoint holds, and why it isn't begun.
use Rattle.std.specs.Prelude.{◌≡◌, ◌≢◌, ◌==◌, ℕ, List, length, Option, None, Some, IfSome, IsTrue, map}
use Rattle.eql_values.specs.declared.cut.Pipe.{Pipe}
use Rattle.eql_outside.specs.Areas.{seen_areas}
use Rattle.eql_outside.specs.Moments.{History, DiskTells}
use Rattle.eql_outside.specs.Outside.{Rose}
use Rattle.eql_outside.specs.Plans.{FaultPlan}
use Rattle.eql_check.specs.Conditions.{key_count}
use Rattle.eql_stages.specs.Planned.{planned_query}
use Rattle.eql_stages.specs.Stages.{pipe_of, stages_in}
use Rattle.eql_words.specs.declared.commands.Find.{Find}
use Rattle.eql_lane.specs.declared.make.LaneStart.{LaneStart}
use Rattle.eql_cut.specs.declared.cut.Cut.{Cut}
use Rattle.eql_cut.specs.declared.cut.CutHead.{CutHead}
use Rattle.eql_cut.specs.CutValues.{names_ascend}
use Rattle.eql_cut.specs.Placing.{IsUnplaced, orders_in}
use Rattle.eql_ckdisk.specs.Found.{found_on}
use Rattle.eql_ckdisk.specs.Keeping.{KeepsAll}
use Rattle.eql_ckdisk.specs.Putting.{Stands, last_cut}
use Rattle.eql_conductor.specs.declared.plan.Keep.{Keep}
use Rattle.eql_runs.specs.Starts.{OnDisk, StandsFor}
use Rattle.eql_inputs.specs.declared.error.InputError.TheVariants as error
use Rattle.eql_resume.specs.declared.finding.StartRefused.{StartRefused}
use Rattle.eql_resume.specs.declared.finding.StartRefused.TheVariants as by
use Rattle.eql_resume.specs.Beginnings.{LanesBegin, Rest, rest_by}
use Rattle.eql_resume.specs.Finding.{IsRefusedBy, Suits, disk_holding}
use Rattle.eql_find.specs.declared.error.CutStop.TheVariants as cut
use Rattle.eql_find.specs.declared.error.FindError.{FindError}
use Rattle.eql_find.specs.declared.error.FindError.TheVariants as run
use Rattle.eql_find.specs.declared.plan.PlannedQuery.{PlannedQuery}
use Rattle.eql_find.specs.Errors.{cut_refusal_of}
use Rattle.eql_find.specs.Searching.{head_in}

-- ---- what is tested of a cut
abbrev pub stages_of : PlannedQuery → ℕ
stages_of p = length (stages_in (planned_query p.plan).query.body)

abbrev pub values_of : PlannedQuery → ℕ
values_of p = key_count (planned_query p.plan).query.body

abbrev pub pipes_of : PlannedQuery → List Pipe
pipes_of p = map pipe_of (planned_query p.plan).query.pipes

-- what a run was found to begin with: a cut, where there is one, with its format and its generation
pub record Begun : Type 0 where
  pub format : ℕ
  pub generation : ℕ
  pub cut : Option Cut

abbrev pub on_begun : Begun → OnDisk
on_begun begun = disk_holding begun.format begun.generation begun.cut

-- a cut with which a run begins is one of this run, which has a checkpoint, and fits it
pub record IsOwn (find : Find) (p : PlannedQuery) (begun : Begun) : Type 0 where
  pub asked : IfSome begun.cut (λ cut. find.checkpoint ≢ None)
  pub suits : IfSome begun.cut (Suits (stages_of p) (values_of p) (pipes_of p) (head_in find p))
  pub unplaced : IfSome begun.cut (λ cut. begun.format ≡ 1 → IsUnplaced (orders_in cut))

-- with a checkpoint it is what the disk holds
abbrev pub IsFound : Find → Option History → Begun → Type 0
IsFound find disk begun = find.checkpoint ≢ None → IfSome disk (λ h. StandsFor (on_begun begun) (found_on (seen_areas h.now)))

-- the generation of the last cut of a run that keeps cuts
abbrev pub generation_kept : {D : Type 0} → Option (Keep D) → Option ℕ
generation_kept None = None
generation_kept (Some k) = Some (last_cut k.state).generation

-- a run begins so: its head, where it keeps its cuts, and how its lanes and all the rest begin
pub record BeginsOnDisk {D : Type 0} (find : Find) (p : PlannedQuery) (disk : Option History) (head : CutHead) (keep : Option (Keep D))
    (starts : List LaneStart) (rest : Rest) : Type 0 where
  pub begun : Begun
  pub is_found : IsFound find disk begun
  pub own : IsOwn find p begun
  pub head_is : head ≡ head_in find p
  pub names : IsTrue (names_ascend p.mapping)
  pub generation_is : IfSome (generation_kept keep) (λ g. g ≡ begun.generation)
  pub lanes : LanesBegin begun.cut begun.format (length find.shards) starts
  pub rest_is : rest ≡ rest_by (pipes_of p) (begun.format == 1) begun.cut

-- ---- the disk
module _ {D : Type 0} (history : D → Option History) (count : D → ℕ) where
  -- a disk that didn't fail, and on which the last cut stands as the state says; of what it held at the start no more was changed than that all is kept
  abbrev pub KeepsFor : (start : Option History) → Option (Keep D) → Type 0
  KeepsFor start None = ⊥
  KeepsFor start (Some k) = (count k.disk ≡ 0) × Stands (last_cut k.state) (history k.disk) × DiskTells KeepsAll start (history k.disk)

  -- the same of a run that may have none
  abbrev pub IsFreshKeep : (start : Option History) → Option (Keep D) → Type 0
  IsFreshKeep start None = Unit {0}
  IsFreshKeep start (Some k) = KeepsFor start (Some k)

module _ {D : Type 0} (history : D → Option History) where
  -- what a shelf's disk is once that of a run came back
  abbrev pub disk_after : Option History → Option (Keep D) → Option History
  disk_after before None = before
  disk_after before (Some k) = history k.disk

module _ {D : Type 0} (plan : D → Option FaultPlan) where
  abbrev pub plan_after : Option FaultPlan → Option (Keep D) → Option FaultPlan
  plan_after before None = before
  plan_after before (Some k) = plan k.disk

-- ---- why it isn't begun
-- the disk is held or failed, or memory ran out
abbrev pub IsDiskOrMemory : FindError → Type 0
IsDiskOrMemory (run.Files (error.Refused r)) = ⊥
IsDiskOrMemory (run.Files (error.Read name)) = ⊥
IsDiskOrMemory (run.Files error.Memory) = Unit {0}
IsDiskOrMemory (run.Cut why) = ⊥
IsDiskOrMemory (run.Held why) = Unit {0}
IsDiskOrMemory run.Disk = Unit {0}
IsDiskOrMemory run.Write = ⊥
IsDiskOrMemory (run.Limit l) = ⊥
IsDiskOrMemory run.Generation = ⊥
IsDiskOrMemory (run.Report r) = ⊥

-- the error of a refusal
abbrev pub IsErrorOfStart : StartRefused → FindError → Type 0
IsErrorOfStart by.Disk h = h ≡ run.Disk
IsErrorOfStart (by.Foreign area) h = h ≡ run.Cut (cut.Foreign area)
IsErrorOfStart (by.Damaged area at) h = h ≡ run.Cut (cut.Damaged area at)
IsErrorOfStart (by.Differs d) h = h ≡ run.Cut (cut.Differs d)
IsErrorOfStart by.Unfit h = h ≡ run.Cut cut.Unfit
IsErrorOfStart by.Memory h = h ≡ run.Files error.Memory

-- why a run isn't begun: by what its disk held, where it tells
abbrev pub HasStartCause : Find → PlannedQuery → Option History → FindError → Type 0
HasStartCause find p disk (run.Files (error.Refused r)) = ⊥
HasStartCause find p disk (run.Files (error.Read name)) = ⊥
HasStartCause find p disk (run.Files error.Memory) = Unit {0}
HasStartCause find p disk (run.Cut why) =
    (find.checkpoint ≢ None)
    × IfSome disk (λ h. IsRefusedBy (stages_of p) (values_of p) (pipes_of p) (head_in find p) (found_on (seen_areas h.now)) (cut_refusal_of why))
HasStartCause find p disk (run.Held why) = find.checkpoint ≢ None
HasStartCause find p disk run.Disk = find.checkpoint ≢ None
HasStartCause find p disk run.Write = ⊥
HasStartCause find p disk (run.Limit l) = ⊥
HasStartCause find p disk run.Generation = ⊥
HasStartCause find p disk (run.Report r) = ⊥

-- the disk's count of faults rose where it is told as failed, and else it is as before
abbrev pub DiskRose : FindError → (before now : ℕ) → Type 0
DiskRose (run.Files h) before now = now ≡ before
DiskRose (run.Cut why) before now = now ≡ before
DiskRose (run.Held why) before now = now ≡ before
DiskRose run.Disk before now = Rose before now
DiskRose run.Write before now = now ≡ before
DiskRose (run.Limit l) before now = now ≡ before
DiskRose run.Generation before now = now ≡ before
DiskRose (run.Report r) before now = now ≡ before
