-- How the conductor takes its seat at a hub, and which ends no hand tells.
use Rattle.std.proofs.Common.{◌≢◌, inl, inr, ℕ, List, Option, length, sym, ◌∙◌}
use Rattle.std.specs.Prelude.{Err}
use Rattle.eql_outside.specs.declared.disk.Disk as disks
use Rattle.eql_outside.specs.declared.source.Source as sources
use Rattle.eql_values.specs.declared.reader.LineReader as readers
use Rattle.eql_conductor.specs.declared.plan.Run.{Run}
use Rattle.eql_conductor.specs.declared.stop.Stop.TheVariants as stop
use Rattle.eql_conductor.specs.Benches.{Known}
use Rattle.eql_conductor.specs.Going.{RunResult}
use Rattle.eql_conductor.specs.Lists.{PoolView, known_in}
use Rattle.eql_conductor.specs.Runs.{MayKeepIf, MayRun}
use Rattle.eql_conductor.proofs.Causes.{err_is}
use Rattle.eql_hub.specs.declared.step.HandFault.{HandFault}
use Rattle.eql_hub.specs.declared.step.HandFault.TheVariants as fault
use Rattle.eql_hub.specs.Hands.{HandView, HubView, IsFirst}
use Rattle.eql_lock_bench.specs.Benched.{AreOfTexts}
use Rattle.eql_lock_bench.proofs.Beginnings.{fresh_texts}
use Rattle.eql_lock_bench.specs.Locked.{known_by}
use Rattle.eql_hub_run.specs.Beside.{IsSameBench}
use Rattle.eql_hub_run.specs.Conducted.{MayConduct, opened}
use Rattle.eql_hub_run.specs.Gathers.{IsLeastOf, stop_of_fault}
use Rattle.eql_hub_run.specs.Workers.{WorkerView}
use Rattle.eql_hub_run.proofs.Beginning.{begins, may_keep, may_run, unplayed_fresh}
use Rattle.eql_hub_run.proofs.Splits.{hand_first}

-- ---- before
module _ {S L D : Type 0} (source : sources.Ghosts S) (reader : readers.Ghosts L) (disk : disks.Ghosts D) (text : ℕ → Option (List ℕ)) (hub : HubView)
    (hand : HandView S L) (workers : List (WorkerView S L)) (run : Run D) (may : MayConduct source reader disk text hub hand workers run) where
  abbrev pool : PoolView S L
  pool = opened hand

  abbrev seat : Known
  seat = known_by source.left source.lent_as source.fault_plan reader.read_of text hand

  abbrev given : Known
  given = known_in reader.read_of text pool.lanes pool.parts

  same : IsSameBench given seat
  same = begins source.left source.lent_as source.fault_plan reader.read_of text (length workers) pool.lanes pool.parts hand may.unplayed

  pub seat_first : IsFirst hand
  seat_first = hand_first (length workers) pool.lanes pool.parts hand may.unplayed

  pub seat_texts : AreOfTexts source.left text hand.lanes.views
  seat_texts = fresh_texts source.left text pool.lanes hand.lanes.views (unplayed_fresh (length workers) pool.lanes hand.lanes.views may.unplayed.lanes_are) may.texts.each

  pub seat_may : MayRun run.plan seat run.book
  seat_may = may_run given seat same run.plan run.book may.may

  pub seat_keeps : MayKeepIf disk.history disk.fault_count run.plan seat run.keep
  seat_keeps = may_keep given seat same disk.history disk.fault_count run.plan run.keep may.keeps

-- ---- after
not_write : (met : HandFault) → stop_of_fault met ≢ stop.Write
not_write (fault.Read s) e = absurd cc
not_write fault.Memory e = absurd cc
not_write (fault.Limit of) e = absurd cc
not_write fault.Worn e = absurd cc

not_disk : (met : HandFault) → stop_of_fault met ≢ stop.Disk
not_disk (fault.Read s) e = absurd cc
not_disk fault.Memory e = absurd cc
not_disk (fault.Limit of) e = absurd cc
not_disk fault.Worn e = absurd cc

module _ {S L : Type 0} (ended : RunResult) (workers : List (WorkerView S L)) (answer : RunResult) (told : IsLeastOf ended workers answer) where
  pub told_no_write : ended ≢ Err stop.Write → answer ≢ Err stop.Write
  told_no_write not e = elim told.from [
    | inl same ↦ not (sym same ∙ e)
    | inr has ↦ not_write has.so.0 (err_is (stop_of_fault has.so.0) stop.Write (sym has.so.2 ∙ e))
  ]

  pub told_no_disk : ended ≢ Err stop.Disk → answer ≢ Err stop.Disk
  told_no_disk not e = elim told.from [
    | inl same ↦ not (sym same ∙ e)
    | inr has ↦ not_disk has.so.0 (err_is (stop_of_fault has.so.0) stop.Disk (sym has.so.2 ∙ e))
  ]
