-- How a run of `find` ended: what was written, why it stopped, and what its counts of faults say then.
use Rattle.std.specs.Prelude.{◌≡◌, ◌≢◌, ◌≤◌, ℕ, Option, None, IfErr, OnErr, OnOk, Result}
use Rattle.eql_outside.specs.Moments.{DiskTells, History}
use Rattle.eql_outside.specs.declared.shelf.Shelf as shelves
use Rattle.eql_outside.specs.declared.sink.Sink as sinks
use Rattle.eql_words.specs.declared.commands.Find.{Find}
use Rattle.eql_ckdisk.specs.Going.{Goes}
use Rattle.eql_ckdisk.specs.Keeping.{LeavesNoMore}
use Rattle.eql_runs.specs.Files.{Files}
use Rattle.eql_runs.specs.Runs.{IfFound, IsFindAccepted, KeepsCuts}
use Rattle.eql_find.specs.declared.error.FindError.{FindError}
use Rattle.eql_find.specs.Finding.{FindsAll, FindsListing, FindsSome, HasFindCause}
use Rattle.eql_find.specs.Errors.{AbsencesFollow, CountFollows, DiskFollows, ErrFollows, FaultsFollow, HeldIsTold, IsRefusal, IsReport, OutFollows, TellsNothing, reason_told}

module _ {K E : Type 0} (output : sinks.Ghosts K) (errors : sinks.Ghosts E) where
  -- what was written, why the run stopped, and what its disk came to hold, by its files and by its disk before and now
  pub record FindEnds {A : Type 0} (find : Find) (files : Option Files) (disk now : Option History) (out out' : K) (err err' : E)
      (answer : Result A FindError) : Type 0 where
    pub done : OnOk answer (FindsAll find files disk (output.written out) (output.written out') (errors.written err) (errors.written err'))
    pub accepted : OnOk answer (IfFound find files disk (IsFindAccepted find))
    pub prefix : OnErr answer (FindsSome find files disk (output.written out) (output.written out'))
    pub listed : IfErr answer (λ error. IsReport error → FindsListing find files disk (output.written out) (output.written out'))
    pub untouched : IfErr answer (λ error. IsRefusal error → out' ≡ out)
    pub quiet : IfErr answer (λ error. TellsNothing error → err' ≡ err)
    pub cause : IfErr answer (HasFindCause find files disk now (errors.written err) (errors.written err'))
    -- with a checkpoint each image at each moment stands for what was there, or for a cut of the run, whose lines were written and kept
    pub moments : find.checkpoint ≢ None
        → DiskTells (KeepsCuts find files (output.written out) (output.written out') (output.kept out) (output.kept out')) disk now
    -- where the files or the disk are refused each image at each moment is one of those at the start
    pub cut_kept : IfErr answer (λ error. IsRefusal error → DiskTells (Goes LeavesNoMore) disk now)

  -- the counts of faults and of what holds the disk follow what is told, and none falls. The disk's faults are counted so often before and now
  pub record FaultsAreTold {A H Src Dsk : Type 0} (shelf : shelves.Ghosts H Src Dsk) (old new : H) (disk_before disk_now : ℕ)
      (listing listing' : K) (report report' : E) (answer : Result A FindError) : Type 0 where
    pub faults : FaultsFollow answer (shelf.faults_of old) (shelf.faults_of new)
    pub count : CountFollows answer (shelf.fault_count old) (shelf.fault_count new)
    pub absences : AbsencesFollow answer (shelf.absent_count old) (shelf.absent_count new)
    pub disk : DiskFollows answer disk_before disk_now
    pub held : HeldIsTold shelf old new (reason_told answer)
    pub out : OutFollows answer (output.fault_count listing) (output.fault_count listing')
    pub err : ErrFollows answer (errors.fault_count report) (errors.fault_count report')
    pub reads_rise : shelf.fault_count old ≤ shelf.fault_count new
    pub absences_rise : shelf.absent_count old ≤ shelf.absent_count new
    pub disks_rise : disk_before ≤ disk_now
    pub writes_rise : output.fault_count listing ≤ output.fault_count listing'
    pub errors_rise : errors.fault_count report ≤ errors.fault_count report'
