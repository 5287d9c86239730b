-- The cut that a disk holds, and why a run isn't begun with it.
use Rattle.std.specs.Prelude.{◌≡◌, ℕ, List, Option, None, Some}
use Rattle.eql_values.specs.declared.cut.Pipe.{Pipe}
use Rattle.eql_cut.specs.declared.cut.Cut.{Cut}
use Rattle.eql_cut.specs.declared.cut.CutHead.{CutHead}
use Rattle.eql_cut.specs.Agreeing.{difference}
use Rattle.eql_cut.specs.Domain.{IsCut}
use Rattle.eql_cut.specs.Fitting.{FitsRun, run_of}
use Rattle.eql_ckdisk.specs.declared.refused.CkRefused.{CkRefused}
use Rattle.eql_ckdisk.specs.declared.refused.CkRefused.TheVariants as ck
use Rattle.eql_ckdisk.specs.Found.{Found}
use Rattle.eql_ckdisk.specs.Putting.{last_cut}
use Rattle.eql_runs.specs.Starts.{OnDisk, nothing_kept, a_cut, StandsFor}
use Rattle.eql_runs.specs.CutRefusals.{CutRefusal, foreign, damaged, differs, unfit, FoundRefuses}
use Rattle.eql_resume.specs.declared.finding.FoundCut.{FoundCut}
use Rattle.eql_resume.specs.declared.finding.StartRefused.{StartRefused}
use Rattle.eql_resume.specs.declared.finding.StartRefused.TheVariants as by

-- a cut stands in the order of a text, has this head, and fits the run of these stages, values and pipes
pub record Suits (stages values : ℕ) (pipes : List Pipe) (head : CutHead) (cut : Cut) : Type 0 where
  pub is_cut : IsCut cut
  pub head_is : cut.head ≡ head
  pub fits : FitsRun stages values pipes cut

-- what was found on the disk, in words of runs: nothing, or a cut with its format and generation
abbrev pub disk_holding : (format generation : ℕ) → Option Cut → OnDisk
disk_holding format generation None = nothing_kept
disk_holding format generation (Some cut) = a_cut format generation cut

abbrev pub on_of : FoundCut → OnDisk
on_of start = disk_holding start.format (last_cut start.state).generation start.cut

-- the refusal, in words of runs, where it is one by the cut
abbrev pub refusal_of : StartRefused → Option CutRefusal
refusal_of by.Disk = None
refusal_of (by.Foreign area) = Some (foreign area)
refusal_of (by.Damaged area at) = Some (damaged area at)
refusal_of (by.Differs d) = Some (differs d)
refusal_of by.Unfit = Some unfit
refusal_of by.Memory = None

-- both areas stand for something that refuses a run of this head for this cause
pub record IsRefusedBy (stages values : ℕ) (pipes : List Pipe) (head : CutHead) (f : Found) (r : CutRefusal) : Type 0 where
  pub on : OnDisk
  pub stands : StandsFor on f
  pub refuses : FoundRefuses head (run_of stages values pipes head.slack) on r

abbrev pub HasResumeCause : Found → (stages values : ℕ) → List Pipe → CutHead → StartRefused → Type 0
HasResumeCause f stages values pipes head by.Disk = Unit {0}
HasResumeCause f stages values pipes head (by.Foreign area) = IsRefusedBy stages values pipes head f (foreign area)
HasResumeCause f stages values pipes head (by.Damaged area at) = IsRefusedBy stages values pipes head f (damaged area at)
HasResumeCause f stages values pipes head (by.Differs d) = IsRefusedBy stages values pipes head f (differs d)
HasResumeCause f stages values pipes head by.Unfit = IsRefusedBy stages values pipes head f unfit
HasResumeCause f stages values pipes head by.Memory = Unit {0}

-- why a cut isn't one of a run of this head
abbrev pub HasCutCause : (stages values : ℕ) → List Pipe → CutHead → Cut → StartRefused → Type 0
HasCutCause stages values pipes head cut by.Disk = ⊥
HasCutCause stages values pipes head cut (by.Foreign area) = ⊥
HasCutCause stages values pipes head cut (by.Damaged area at) = ⊥
HasCutCause stages values pipes head cut (by.Differs d) = difference cut.head head ≡ Some d
HasCutCause stages values pipes head cut by.Unfit = (cut.head ≡ head) × ¬ (FitsRun stages values pipes cut)
HasCutCause stages values pipes head cut by.Memory = Unit {0}

-- the same of a cut where there is one
abbrev pub HasFoundCause : (stages values : ℕ) → List Pipe → CutHead → Option Cut → StartRefused → Type 0
HasFoundCause stages values pipes head None refused = ⊥
HasFoundCause stages values pipes head (Some cut) refused = HasCutCause stages values pipes head cut refused

-- the refusal of a disk as that of a run
abbrev pub refused_by : CkRefused → StartRefused
refused_by ck.DiskFault = by.Disk
refused_by (ck.Foreign area) = by.Foreign area
refused_by (ck.Damaged area at) = by.Damaged area at
refused_by ck.Generation = by.Memory
refused_by ck.Memory = by.Memory
