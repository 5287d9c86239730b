-- How a run over its lanes ended.
use Rattle.std.specs.Prelude.{◌≡◌, ◌≤◌, ℕ, List, Option, None, IfErr, IfSome, OnErr, OnOk, Result}
use Rattle.eql_outside.specs.Written.{WroteAll, WroteFront}
use Rattle.eql_outside.specs.declared.disk.Disk as disks
use Rattle.eql_outside.specs.declared.sink.Sink as sinks
use Rattle.eql_words.specs.declared.commands.Find.{Find}
use Rattle.eql_lane.specs.Views.{LaneView}
use Rattle.eql_cut.specs.declared.cut.CutHead.{CutHead}
use Rattle.eql_conductor.specs.declared.plan.Keep.{Keep}
use Rattle.eql_conductor.specs.Runs.{disk_faults}
use Rattle.eql_resume.specs.Beginnings.{Rest}
use Rattle.eql_runs.specs.Searches.{report_of, rest_of}
use Rattle.eql_find.specs.declared.error.FindError.{FindError}
use Rattle.eql_find.specs.declared.plan.PlannedQuery.{PlannedQuery}
use Rattle.eql_find.specs.Errors.{DiskFollows, ErrFollows, IsReport, OutFollows, TellsNothing}
use Rattle.eql_find.specs.Running.{IsBeyondOn, StartsOver}
use Rattle.eql_find.specs.Searching.{AreCutsOf, KeepsAs, LaneFaultsFollow, LanesStop, search_in}

-- what no run changes of a lane: the name of its source, and that the source doesn't tell; the count of its faults doesn't fall
pub record StaysSource {S L : Type 0} (left lent_as : S → Option (List ℕ)) (old new : LaneView S L) : Type 0 where
  pub named : lent_as new.source ≡ lent_as old.source
  pub silent : left old.source ≡ None → left new.source ≡ None
  pub counts : old.state.faults ≤ new.state.faults

module _ {K E : Type 0} (output : sinks.Ghosts K) (errors : sinks.Ghosts E) where
  -- what was written, which cuts were put, and why the run stopped. What is said of texts holds where they are told, and what the run begins with is
  -- nothing, or a cut of them
  pub record LanesRun {A S L D : Type 0} (disk : disks.Ghosts D) (known_texts : Option (List (List ℕ))) (find : Find) (p : PlannedQuery)
      (lanes : List (LaneView S L)) (rest : Rest) (head : CutHead) (out out' : K) (err err' : E) (keep keep' : Option (Keep D))
      (answer : Result A FindError) : Type 0 where
    pub done : OnOk answer (IfSome known_texts (λ texts. StartsOver known_texts find p lanes rest texts
        → WroteAll (rest_of (search_in find p) rest.book.listed texts) (output.written out) (output.written out')
        × WroteAll (report_of (search_in find p) texts) (errors.written err) (errors.written err')))
    pub prefix : OnErr answer (IfSome known_texts (λ texts. StartsOver known_texts find p lanes rest texts
        → WroteFront (rest_of (search_in find p) rest.book.listed texts) (output.written out) (output.written out')))
    pub listed : IfErr answer (λ error. IsReport error → IfSome known_texts (λ texts. StartsOver known_texts find p lanes rest texts
        → WroteAll (rest_of (search_in find p) rest.book.listed texts) (output.written out) (output.written out')))
    pub keeps : KeepsAs disk.history head rest.mark (AreCutsOf (search_in find p) known_texts rest.book.listed (output.written out) (output.written out')
        (output.kept out) (output.kept out') (StartsOver known_texts find p lanes rest)) keep keep' answer
    pub quiet : IfErr answer (λ error. TellsNothing error → err' ≡ err)
    pub cause : IfErr answer (LanesStop find (search_in find p) known_texts (StartsOver known_texts find p lanes rest) (IsBeyondOn lanes)
        (errors.written err) (errors.written err'))

  -- the counts of faults follow what is told, and none falls
  pub record LaneFaultsAreTold {A S L D : Type 0} (store : disks.Ghosts D) (find : Find) (lanes lanes' : List (LaneView S L))
      (listing listing' : K) (report report' : E) (keep keep' : Option (Keep D)) (answer : Result A FindError) : Type 0 where
    pub faults : LaneFaultsFollow find answer lanes lanes'
    pub disk : DiskFollows answer (disk_faults store.history store.fault_count keep) (disk_faults store.history store.fault_count keep')
    pub out : OutFollows answer (output.fault_count listing) (output.fault_count listing')
    pub err : ErrFollows answer (errors.fault_count report) (errors.fault_count report')
    pub disks_rise : disk_faults store.history store.fault_count keep ≤ disk_faults store.history store.fault_count keep'
    pub writes_rise : output.fault_count listing ≤ output.fault_count listing'
    pub errors_rise : errors.fault_count report ≤ errors.fault_count report'
