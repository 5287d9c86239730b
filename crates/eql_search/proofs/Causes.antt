-- Why a run ended, and that no fault was passed over.
use Rattle.std.proofs.Common.{◌≡◌, ◌≢◌, ◌≤◌, ◌<◌, ℕ, ℤ, List, Option, Some, Ok, Err, length, refl, arith, subst}
use Rattle.std.specs.Prelude.{IfErr, slice_get}
use Rattle.std.proofs.lemmas.Option.{slice_get_within}
use Rattle.eql_outside.specs.Outside.{Rose}
use Rattle.eql_outside.specs.Unfailing.{IsUnfailing}
use Rattle.eql_outside.specs.declared.disk.Disk as disks
use Rattle.eql_outside.specs.declared.sink.Sink as sinks
use Rattle.eql_outside.specs.declared.source.Source as sources
use Rattle.eql_values.specs.Accepted.{Reads}
use Rattle.eql_values.specs.declared.reader.LineReader as readers
use Rattle.eql_lane.specs.declared.ops.ShardLimit.{ShardLimit}
use Rattle.eql_lane.specs.declared.ops.ShardLimit.TheVariants as limit
use Rattle.eql_lane.specs.Views.{LaneView, setting_of}
use Rattle.eql_parts.specs.PartSteps.{PartView}
use Rattle.eql_conductor.specs.declared.plan.Run.{Run}
use Rattle.eql_conductor.specs.declared.stop.Stop.TheVariants as stop
use Rattle.eql_conductor.specs.Benches.{Known}
use Rattle.eql_conductor.specs.Bounds.{AreSized}
use Rattle.eql_conductor.specs.Going.{RunResult}
use Rattle.eql_conductor.specs.LaneRounds.{text_at}
use Rattle.eql_conductor.specs.Lists.{known_in}
use Rattle.eql_conductor.specs.Runs.{EndsBy, disk_faults}
use Rattle.eql_conductor.proofs.Lists.{there_or}
use Rattle.eql_hub_run.specs.Beside.{HubRan}
use Rattle.eql_search.specs.Answers.{AreSteadyBut, AreUnfailing, BecameAt, HasSearchCause, HasLimitAt, IsNoFault, IsRead, RanOutOfBytes, RanOutOfLines, RoseFaults}
use Rattle.eql_search.specs.Searches.{AreBegunFrom}
use Rattle.eql_search.proofs.Lanes.{as_many, out_of_bytes, out_of_lines}
use Rattle.eql_search.proofs.Places.{all_at, all_by}
use Rattle.eql_search.proofs.Told.{disk_then, no_disk, no_write, write_then}

-- ---- counts by the end of the conductor
module _ (first last : Known) (sink_before sink_now disk_before disk_now : ℕ) where
  abbrev By : RunResult → Type 0
  By ended = EndsBy ended first last sink_before sink_now disk_before disk_now

  sink_same : (ended : RunResult) → By ended → ended ≢ Err stop.Write → sink_now ≡ sink_before
  sink_same (Ok done) by other = by.2
  sink_same (Err (stop.Read s)) by other = by.3
  sink_same (Err stop.Write) by other = absurd (other refl)
  sink_same (Err stop.Disk) by other = by.2
  sink_same (Err stop.Memory) by other = by.2
  sink_same (Err (stop.Limit (limit.Lines s))) by other = by.4
  sink_same (Err (stop.Limit (limit.Bytes s))) by other = by.4
  sink_same (Err stop.Worn) by other = by.2
  sink_same (Err stop.Generation) by other = by.2

  disk_same : (ended : RunResult) → By ended → ended ≢ Err stop.Disk → disk_now ≡ disk_before
  disk_same (Ok done) by other = by.3
  disk_same (Err (stop.Read s)) by other = by.4
  disk_same (Err stop.Write) by other = by.3
  disk_same (Err stop.Disk) by other = absurd (other refl)
  disk_same (Err stop.Memory) by other = by.3
  disk_same (Err (stop.Limit (limit.Lines s))) by other = by.5
  disk_same (Err (stop.Limit (limit.Bytes s))) by other = by.5
  disk_same (Err stop.Worn) by other = by.3
  disk_same (Err stop.Generation) by other = by.3

  no_less : (x y : ℕ) → y ≡ x → x ≤ y
  no_less x y e = omega (arith, e)

  sink_rises : (ended : RunResult) → By ended → sink_before ≤ sink_now
  sink_rises (Ok done) by = no_less sink_before sink_now by.2
  sink_rises (Err (stop.Read s)) by = no_less sink_before sink_now by.3
  sink_rises (Err stop.Write) by = by.2.1
  sink_rises (Err stop.Disk) by = no_less sink_before sink_now by.2
  sink_rises (Err stop.Memory) by = no_less sink_before sink_now by.2
  sink_rises (Err (stop.Limit (limit.Lines s))) by = no_less sink_before sink_now by.4
  sink_rises (Err (stop.Limit (limit.Bytes s))) by = no_less sink_before sink_now by.4
  sink_rises (Err stop.Worn) by = no_less sink_before sink_now by.2
  sink_rises (Err stop.Generation) by = no_less sink_before sink_now by.2

  disk_rises : (ended : RunResult) → By ended → disk_before ≤ disk_now
  disk_rises (Ok done) by = no_less disk_before disk_now by.3
  disk_rises (Err (stop.Read s)) by = no_less disk_before disk_now by.4
  disk_rises (Err stop.Write) by = no_less disk_before disk_now by.3
  disk_rises (Err stop.Disk) by = by.3.1
  disk_rises (Err stop.Memory) by = no_less disk_before disk_now by.3
  disk_rises (Err (stop.Limit (limit.Lines s))) by = no_less disk_before disk_now by.5
  disk_rises (Err (stop.Limit (limit.Bytes s))) by = no_less disk_before disk_now by.5
  disk_rises (Err stop.Worn) by = no_less disk_before disk_now by.3
  disk_rises (Err stop.Generation) by = no_less disk_before disk_now by.3

module _ {S L K D : Type 0} (source : sources.Ghosts S) (reader : readers.Ghosts L) (output : sinks.Ghosts K) (disk : disks.Ghosts D) (reads : Reads) (slack : Option ℤ)
    (told : Option (List (List ℕ))) (olds news : List (LaneView S L)) (parts : List PartView) (sink sink' : K) (carried carried' : Run D)
    (first last : Known) (begun : AreBegunFrom reader.read_of reads slack 0 olds)
    (sizes : AreSized (known_in reader.read_of (text_at told) olds parts)) where
  abbrev Ran : RunResult → Type 0
  Ran r = HubRan source reader output disk (text_at told) olds news parts sink sink' first last carried carried' r

  abbrev sink_before : ℕ
  sink_before = output.fault_count sink

  abbrev sink_now : ℕ
  sink_now = output.fault_count sink'

  abbrev disk_before : ℕ
  disk_before = disk_faults disk.history disk.fault_count carried.keep

  abbrev disk_now : ℕ
  disk_now = disk_faults disk.history disk.fault_count carried'.keep

  many : (r : RunResult) → Ran r → length news ≡ length olds
  many r run = as_many source reader output disk reads slack told olds news parts sink sink' carried carried' r first last begun run sizes

  -- the lane of a shard, before and after
  became_at : (r : RunResult) → Ran r → (s : ℕ) → s < length olds → (Became : LaneView S L → LaneView S L → Type 0)
      → ((old new : LaneView S L) → slice_get olds s ≡ Some old → slice_get news s ≡ Some new → Became old new) → BecameAt s olds news Became
  became_at r run s inside Became each =
      let one = there_or olds s inside in
      let same = many r run in
      let two = there_or news s (omega (arith, inside, same)) in
      record { old = one.0; new = two.0; was = one.1; is = two.1; became = each one.0 two.0 one.1 two.1 }

  -- ---- why
  limit_at : (of : ShardLimit) → Ran (Err (stop.Limit of)) → HasLimitAt told of olds news
  limit_at (limit.Lines s) run =
      let r : RunResult = Err (stop.Limit (limit.Lines s)) in
      became_at r run s run.hands.hand_cause.0 (RanOutOfLines (text_at told s)) (λ old new was is.
      out_of_lines source reader output disk reads slack told olds news parts sink sink' carried carried' r first last begun run sizes s old new was is
      (setting_of reader.read_of (text_at told s) old) (run.hands.hand_cause.1 old new was is))
  limit_at (limit.Bytes s) run =
      let r : RunResult = Err (stop.Limit (limit.Bytes s)) in
      became_at r run s run.hands.hand_cause.0 (RanOutOfBytes (text_at told s)) (λ old new was is.
      out_of_bytes source reader output disk reads slack told olds news parts sink sink' carried carried' r first last begun run sizes s old new was is
      (run.hands.hand_cause.1 new is))

  rose_at : (s : ℕ) → Ran (Err (stop.Read s)) → BecameAt s olds news RoseFaults
  rose_at s run =
      let r : RunResult = Err (stop.Read s) in
      became_at r run s run.hands.hand_cause.0 RoseFaults (λ old new was is. run.hands.hand_cause.1 old new was is)

  -- what the conductor's end says of sink and disk
  abbrev CountsBy : RunResult → Type 0
  CountsBy ended = EndsBy ended first last sink_before sink_now disk_before disk_now

  wrote_fault : Ran (Err stop.Write) → Rose sink_before sink_now
  wrote_fault run = let by : CountsBy (Err stop.Write) = subst CountsBy (write_then run.ended run.hands.told) run.conductor.cause in by.2.0

  disk_fault : Ran (Err stop.Disk) → Rose disk_before disk_now
  disk_fault run = let by : CountsBy (Err stop.Disk) = subst CountsBy (disk_then run.ended run.hands.told) run.conductor.cause in by.3.0

  pub has_cause : (r : RunResult) → Ran r → IfErr r (λ why. HasSearchCause told why olds news sink_before sink_now disk_before disk_now)
  has_cause (Ok done) run = tt
  has_cause (Err (stop.Read s)) run = rose_at s run
  has_cause (Err stop.Write) run = wrote_fault run
  has_cause (Err stop.Disk) run = disk_fault run
  has_cause (Err stop.Memory) run = tt
  has_cause (Err (stop.Limit of)) run = limit_at of run
  has_cause (Err stop.Generation) run = tt
  has_cause (Err stop.Worn) run = absurd (run.hands.not_worn.1 refl)

  -- ---- no other count rose
  pub reads_steady : (r : RunResult) → Ran r → AreSteadyBut (λ shard. IsRead r) olds news
  reads_steady (Ok a) run s old new untold was is = (run.hands.on.each s old new was is).steady (λ tells. tells)
  reads_steady (Err (stop.Read k)) run s old new untold was is = absurd (untold tt)
  reads_steady (Err stop.Write) run s old new untold was is = (run.hands.on.each s old new was is).steady (λ tells. tells)
  reads_steady (Err stop.Disk) run s old new untold was is = (run.hands.on.each s old new was is).steady (λ tells. tells)
  reads_steady (Err stop.Memory) run s old new untold was is = (run.hands.on.each s old new was is).steady (λ tells. tells)
  reads_steady (Err (stop.Limit of)) run s old new untold was is = (run.hands.on.each s old new was is).steady (λ tells. tells)
  reads_steady (Err stop.Generation) run s old new untold was is = (run.hands.on.each s old new was is).steady (λ tells. tells)
  reads_steady (Err stop.Worn) run s old new untold was is = (run.hands.on.each s old new was is).steady (λ tells. tells)

  -- what a run leaves of the counts of sink and disk
  pub record CountsSo (r : RunResult) : Type 0 where
    pub sink_stays : r ≢ Err stop.Write → ¬ IsRead r → sink_now ≡ sink_before
    pub sink_counts : sink_before ≤ sink_now
    pub disk_stays : r ≢ Err stop.Disk → ¬ IsRead r → disk_now ≡ disk_before
    pub disk_counts : disk_before ≤ disk_now

  pub counts_so : (r : RunResult) → Ran r → CountsSo r
  counts_so r run = record {
    sink_stays = λ other unread. sink_same first last sink_before sink_now disk_before disk_now run.ended run.conductor.cause (no_write run.ended r run.hands.told other unread);
    sink_counts = sink_rises first last sink_before sink_now disk_before disk_now run.ended run.conductor.cause;
    disk_stays = λ other unread. disk_same first last sink_before sink_now disk_before disk_now run.ended run.conductor.cause (no_disk run.ended r run.hands.told other unread);
    disk_counts = disk_rises first last sink_before sink_now disk_before disk_now run.ended run.conductor.cause;
  }

  -- ---- where no call is planned to fail
  module _ (unfailing : AreUnfailing source.fault_plan olds) where
    old_unfailing : (s : ℕ) (old : LaneView S L) → slice_get olds s ≡ Some old → IsUnfailing (source.fault_plan old.source)
    old_unfailing s old was = all_at (λ (lane : LaneView S L). IsUnfailing (source.fault_plan lane.source)) olds unfailing s old was

    pub lanes_unfailing : (r : RunResult) → Ran r → AreUnfailing source.fault_plan news
    lanes_unfailing r run =
        all_by (λ (lane : LaneView S L). IsUnfailing (source.fault_plan lane.source)) news (λ s new is.
        let same = many r run in
        let one = there_or olds s (let within = slice_get_within news s new is in omega (arith, within, same)) in
        ((run.hands.on.each s one.0 new one.1 is).unfailing (old_unfailing s one.0 one.1)).0)

    pub no_fault : (r : RunResult) → Ran r → r ≢ Err stop.Write → r ≢ Err stop.Disk → IfErr r IsNoFault
    no_fault (Ok done) run wrote put = tt
    no_fault (Err (stop.Read s)) run wrote put = let one = there_or olds s run.hands.hand_cause.0 in (run.hands.planned s one.0 one.1 (old_unfailing s one.0 one.1)).1 refl
    no_fault (Err stop.Write) run wrote put = wrote refl
    no_fault (Err stop.Disk) run wrote put = put refl
    no_fault (Err stop.Memory) run wrote put = tt
    no_fault (Err (stop.Limit of)) run wrote put = tt
    no_fault (Err stop.Generation) run wrote put = tt
    no_fault (Err stop.Worn) run wrote put = tt
