-- How a run of a command ended: what was written, and why it stopped.
use Rattle.std.specs.Prelude.{◌≡◌, Option, IfErr, OnErr, OnOk, Result}
use Rattle.eql_outside.specs.Moments.{DiskTells, History}
use Rattle.eql_outside.specs.declared.sink.Sink as sinks
use Rattle.eql_words.specs.declared.commands.Command.{Command}
use Rattle.eql_ckdisk.specs.Going.{Goes}
use Rattle.eql_ckdisk.specs.Keeping.{LeavesNoMore}
use Rattle.eql_runs.specs.Files.{Files}
use Rattle.eql_find.specs.declared.error.FindError.{FindError}
use Rattle.eql_find.specs.Errors.{IsRefusal, IsReport, TellsNothing}
use Rattle.eql_cli.specs.Running.{HasCommandCause, IfRun, IsAcceptedBy, KeepsDisk, RunsAll, RunsListing, RunsSome}

module _ {K E : Type 0} (output : sinks.Ghosts K) (errors : sinks.Ghosts E) where
  -- what was written, why the run stopped, and what its disk came to hold, by its files and by its disk before and now
  pub record CommandEnds {A : Type 0} (asked : Command) (files : Option Files) (disk now : Option History) (out out' : K) (err err' : E) (answer : Result A FindError) : Type 0 where
    pub done : OnOk answer (RunsAll asked files disk (output.written out) (output.written out') (errors.written err) (errors.written err'))
    pub accepted : OnOk answer (IfRun asked files disk (IsAcceptedBy asked))
    pub prefix : OnErr answer (RunsSome asked files disk (output.written out) (output.written out'))
    pub listed : IfErr answer (λ error. IsReport error → RunsListing asked files disk (output.written out) (output.written out'))
    pub untouched : IfErr answer (λ error. IsRefusal error → out' ≡ out)
    pub quiet : IfErr answer (λ error. TellsNothing error → err' ≡ err)
    pub cause : IfErr answer (HasCommandCause asked files disk now (errors.written err) (errors.written err'))
    pub moments : KeepsDisk asked files (output.written out) (output.written out') (output.kept out) (output.kept out') disk now
    pub cut_kept : IfErr answer (λ error. IsRefusal error → DiskTells (Goes LeavesNoMore) disk now)
