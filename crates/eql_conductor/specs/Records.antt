-- What a run of the conductor did, with the cuts that it put, and of told texts in the words of the listing.
use Rattle.std.specs.Prelude.{◌≡◌, ◌≢◌, ℕ, ℤ, List, Option, None, All, map, Result, Err}
use Rattle.eql_values.specs.declared.found.Holder.{Holder}
use Rattle.eql_values.specs.Accepted.{Reads}
use Rattle.eql_outside.specs.Moments.{History}
use Rattle.eql_outside.specs.Unfailing.{IsUnfailing}
use Rattle.eql_outside.specs.declared.disk.Disk as disks
use Rattle.eql_outside.specs.declared.sink.Sink as sinks
use Rattle.eql_parts.specs.PartSteps.{Rules}
use Rattle.eql_book.specs.Books.{BookState}
use Rattle.eql_cut.specs.declared.cut.Cut.{Cut}
use Rattle.eql_cut.specs.Rising.{RiseFrom}
use Rattle.eql_conductor.specs.declared.plan.Keep.{Keep}
use Rattle.eql_conductor.specs.declared.plan.Run.{Run}
use Rattle.eql_conductor.specs.declared.plan.RunPlan.{RunPlan}
use Rattle.eql_conductor.specs.declared.stop.Stop.{Stop}
use Rattle.eql_conductor.specs.declared.stop.Stop.TheVariants as stop
use Rattle.eql_conductor.specs.Benches.{Known}
use Rattle.eql_conductor.specs.Going.{LanesGo, RunResult}
use Rattle.eql_conductor.specs.Outputs.{Output, output_of}
use Rattle.eql_conductor.specs.RunBounds.{RunIsBounded}
use Rattle.eql_conductor.specs.RunLaws.{BeginsTold, ListsByAnswer}
use Rattle.eql_conductor.specs.RunNotes.{RunNotes, round_count}
use Rattle.eql_conductor.specs.Runs.{EndsBy, IsKeptUnfailing, KeepGoes, KeptLinesOf, RunIs, WroteLinesOf, cut_time, disk_faults}

-- over told texts, of which all events below its mark were played before, it wrote the lines of the listing after those that its book counts, or
-- stopped within them
abbrev pub ListsTold : RunPlan → (old new : Known) → (book then : BookState) → (before now : Option (List ℕ)) → List Cut → RunResult → Type 0
ListsTold plan old new book then before now cuts answer =
    (rules : Rules) (reads : Reads) (slack : Option ℤ) (texts : List (List ℕ)) (all : List Holder) → BeginsTold rules reads slack texts plan.mark all old book
    → ListsByAnswer rules reads slack texts plan.mark new book then before now cuts answer

module _ {D : Type 0} (history : D → Option History) (count : D → ℕ) where
  -- which cuts a run put, what it wrote, the lines that each cut counts among it, also of what is kept, and what it played for that, round by round
  pub record Ran (plan : RunPlan) (old new : Known) (book then : BookState) (before now : Output) (keep kept : Option (Keep D)) (answer : RunResult) : Type 0 where
    pub cuts : List Cut
    pub is : RunIs plan.mark old new book then before.written now.written cuts answer
    pub listed : ListsTold plan old new book then before.written now.written cuts answer
    pub keeps : KeepGoes history count plan.head plan.mark old book cuts answer keep kept
    pub wrote : All (WroteLinesOf plan.mark old book before.written now.written) cuts
    pub lines_kept : All (KeptLinesOf plan.mark old book before now.kept) cuts
    pub rise : RiseFrom plan.mark cuts
    pub notes : RunNotes plan (map cut_time cuts) old new answer
    pub bound : RunIsBounded (round_count plan (map cut_time cuts) old new answer notes) old new

-- ---- with a sink and a disk
-- what a run carries
abbrev pub run_of : {D : Type 0} → RunPlan → BookState → Option (Keep D) → Run D
run_of plan book keep = record { plan = plan; book = book; keep = keep }

module _ {K D : Type 0} (output : sinks.Ghosts K) (disk : disks.Ghosts D) where
  -- a sink that doesn't tell goes on so. Where no call of it is planned to fail, none is told as failed and none is planned to fail then; and so of the
  -- calls of the disk that keeps the cuts
  pub record FollowsPlans {A : Type 0} (sink sink' : K) (run run' : Run D) (answer : Result A Stop) : Type 0 where
    pub silent : output.written sink ≡ None → output.written sink' ≡ None
    pub unfailing : IsUnfailing (output.fault_plan sink) → (answer ≢ Err stop.Write) × IsUnfailing (output.fault_plan sink')
    pub unfailing_disk : IsKeptUnfailing disk.fault_plan run.keep → (answer ≢ Err stop.Disk) × IsKeptUnfailing disk.fault_plan run'.keep

  -- the conductor ran over a bench, of which this was known before and then
  pub record ConductorRan (old new : Known) (sink sink' : K) (run run' : Run D) (answer : RunResult) : Type 0 where
    -- what was written, of told texts in the words of the listing, and which cuts were put: their times rise, and the lines that they count were
    -- written and are kept
    pub ran : Ran disk.history disk.fault_count run.plan old new run.book run'.book (output_of output sink) (output_of output sink') run.keep run'.keep answer
    -- why it ended. No count of faults rises but where its fault is returned
    pub cause : EndsBy answer old new (output.fault_count sink) (output.fault_count sink')
        (disk_faults disk.history disk.fault_count run.keep) (disk_faults disk.history disk.fault_count run'.keep)
    -- what stays of the lanes and parts whatever is returned, and that no count or low of a lane falls
    pub goes : LanesGo old new
    pub follows : FollowsPlans sink sink' run run' answer
    pub plan_is : run'.plan ≡ run.plan
