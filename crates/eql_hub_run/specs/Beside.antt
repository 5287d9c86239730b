-- What a run of the conductor over a hub does, with other hands beside it, by the lanes that it was given and those that it hands back.
use Rattle.std.specs.Prelude.{◌≡◌, ◌≢◌, ◌≤◌, ◌<◌, ℕ, List, Option, Some, length, slice_get, Ok, Err}
use Rattle.eql_outside.specs.Outside.{Rose}
use Rattle.eql_outside.specs.Unfailing.{IsUnfailing}
use Rattle.eql_outside.specs.declared.disk.Disk as disks
use Rattle.eql_outside.specs.declared.sink.Sink as sinks
use Rattle.eql_outside.specs.declared.source.Source as sources
use Rattle.eql_values.specs.Accepted.{Reads}
use Rattle.eql_values.specs.declared.reader.LineReader as readers
use Rattle.eql_laws.specs.Counting.{greatest_bytes}
use Rattle.eql_lane.specs.declared.ops.ShardLimit.TheVariants as limit
use Rattle.eql_lane.specs.Lanes.{IsOutOfLines, LaneState}
use Rattle.eql_lane.specs.Views.{LaneView, setting_of}
use Rattle.eql_parts.specs.PartSteps.{PartState, PartView}
use Rattle.eql_conductor.specs.declared.plan.Run.{Run}
use Rattle.eql_conductor.specs.declared.stop.Stop.{Stop}
use Rattle.eql_conductor.specs.declared.stop.Stop.TheVariants as stop
use Rattle.eql_conductor.specs.Benches.{ComesByFeeds, Known}
use Rattle.eql_conductor.specs.Going.{RunResult}
use Rattle.eql_conductor.specs.GoingOn.{AreOfTexts, LanesGoOn, LanesReadFurther, LanesReadOn}
use Rattle.eql_conductor.specs.Lists.{known_in}
use Rattle.eql_conductor.specs.Records.{ConductorRan, FollowsPlans}
use Rattle.eql_hub.specs.Hands.{HandView}
use Rattle.eql_lock_bench.specs.Locked.{known_by}

-- ---- which of several ends is told: the one with the least status
-- the order of stops by their statuses: a file can't be read, the output can't be written, the disk fails, memory runs out, a limit is reached
abbrev pub stop_rank : Stop → ℕ
stop_rank (stop.Read s) = 0
stop_rank stop.Write = 1
stop_rank stop.Disk = 2
stop_rank stop.Memory = 3
stop_rank (stop.Limit of) = 4
stop_rank stop.Generation = 4
stop_rank stop.Worn = 4

-- and last that all is done
abbrev pub rank : RunResult → ℕ
rank (Err by) = stop_rank by
rank (Ok done) = 5

-- an end that a hand can't tell, since it has neither sink nor disk
abbrev pub IsOwn : RunResult → Type 0
IsOwn (Ok done) = Unit {0}
IsOwn (Err stop.Write) = Unit {0}
IsOwn (Err stop.Disk) = Unit {0}
IsOwn (Err stop.Generation) = Unit {0}
IsOwn answer = ⊥

-- the conductor ended so, and this is told: it isn't later in the order, and it is the conductor's where it has the same place there, and where no
-- hand can tell it
pub record IsTold (ended answer : RunResult) : Type 0 where
  pub least : rank answer ≤ rank ended
  pub tie : rank answer ≡ rank ended → ended ≡ answer
  pub own : IsOwn answer → ended ≡ answer

-- ---- how the bench begins
-- two benches may be in the same states, and nothing was played on the other
pub record IsSameBench (a b : Known) : Type 0 where
  pub lanes : b.lanes ≡ a.lanes
  pub parts : b.parts ≡ a.parts
  pub set : (s : ℕ) → b.set s ≡ a.set s
  pub rules : (p : ℕ) → b.rules p ≡ a.rules p
  pub lane_to : (s : ℕ) (x : LaneState) → a.lane s x → b.lane s x
  pub lane_from : (s : ℕ) (x : LaneState) → b.lane s x → a.lane s x
  pub part_to : (p : ℕ) (x : PartState) → a.part p x → b.part p x
  pub part_from : (p : ℕ) (x : PartState) → b.part p x → a.part p x
  pub lane_notes : (s : ℕ) → b.lane_notes s ≡ a.lane_notes s
  pub part_notes : (p : ℕ) → b.part_notes p ≡ a.part_notes p
  pub failed : (s : ℕ) → b.failed s ≡ a.failed s
  pub worn : b.worn ≡ a.worn

-- ---- why an end is told
-- a file is told as failed
abbrev pub TellsRead : RunResult → Type 0
TellsRead (Err (stop.Read s)) = Unit {0}
TellsRead answer = ⊥

module _ {S L : Type 0} (read_of : L → Reads) (text : ℕ → Option (List ℕ)) (olds news : List (LaneView S L)) where
  -- why this is told, by the lanes before and after, where a hand can tell it
  abbrev pub HasHandCause : RunResult → Type 0
  HasHandCause (Err (stop.Read s)) = (s < length olds) × ((old new : LaneView S L) → slice_get olds s ≡ Some old → slice_get news s ≡ Some new → Rose old.state.faults new.state.faults)
  HasHandCause (Err (stop.Limit (limit.Lines s))) = (s < length olds) × ((old new : LaneView S L) → slice_get olds s ≡ Some old → slice_get news s ≡ Some new → IsOutOfLines (setting_of read_of (text s) old) new.state)
  HasHandCause (Err (stop.Limit (limit.Bytes s))) = (s < length olds) × ((new : LaneView S L) → slice_get news s ≡ Some new → new.state.taken ≡ greatest_bytes)
  HasHandCause answer = Unit {0}

-- ---- the run
module _ {S L K D : Type 0} (source : sources.Ghosts S) (reader : readers.Ghosts L) (output : sinks.Ghosts K) (disk : disks.Ghosts D) (text : ℕ → Option (List ℕ))
    (olds news : List (LaneView S L)) (parts : List PartView) (sink sink' : K) where
  -- hands fed lanes and turned parts beside a conductor that ended so, by what was known of the bench first and last: this is told, and these are the
  -- lanes then
  pub record HandsPlayed (first last : Known) (run run' : Run D) (ended answer : RunResult) : Type 0 where
    pub told : IsTold ended answer
    -- each lane comes by feeds of hands from a state that it might have at the conductor's end
    pub lanes : (s : ℕ) (new : LaneView S L) → slice_get news s ≡ Some new → (x : LaneState) × last.lane s x × ComesByFeeds (first.set s) x new.state
    pub hand_cause : HasHandCause reader.read_of text olds news answer
    pub not_worn : (ended ≢ Err stop.Worn) × (answer ≢ Err stop.Worn)
    pub planned : (s : ℕ) (lane : LaneView S L) → slice_get olds s ≡ Some lane → IsUnfailing (source.fault_plan lane.source)
        → (ended ≢ Err (stop.Read s)) × (answer ≢ Err (stop.Read s))
    -- no lane's faults rose where none is told
    pub on : LanesGoOn source.left source.lent_as source.fault_plan reader.read_of (λ s. TellsRead answer → ⊥) olds news
    pub texts : AreOfTexts source.left text news
    pub read : LanesReadOn reader.read_of text olds news
    pub lines : LanesReadFurther text olds news
    -- the sink and the disk go on as they are planned
    pub follows : FollowsPlans output disk sink sink' run run' answer

  -- the conductor ran over a bench of these lanes and parts, and hands played beside it
  pub record HubRan (first last : Known) (run run' : Run D) (answer : RunResult) : Type 0 where
    pub begins : IsSameBench (known_in reader.read_of text olds parts) first
    pub ended : RunResult
    pub conductor : ConductorRan output disk first last sink sink' run run' ended
    pub hands : HandsPlayed first last run run' ended answer

  -- so it ran, by what the first hand knew as the bench took it and as the bench gave it back
  pub record RanBeside (before now : Run D) (answer : RunResult) : Type 0 where
    pub first : HandView S L
    pub last : HandView S L
    pub run : HubRan (known_by source.left source.lent_as source.fault_plan reader.read_of text first)
        (known_by source.left source.lent_as source.fault_plan reader.read_of text last) before now answer
