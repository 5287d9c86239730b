-- What a hand does in one step.
use Rattle.std.specs.Prelude.{◌≡◌, ◌≢◌, ◌⊎◌, ◌≤◌, ◌+◌, ℕ, Bool, true, false, List, Option, Some, length, slice_get}
use Rattle.eql_values.specs.Accepted.{Reads}
use Rattle.eql_values.specs.declared.item.Item.{Item}
use Rattle.eql_outside.specs.Plans.{FaultPlan}
use Rattle.eql_lane.specs.declared.ops.LaneOp.TheVariants as lane_op
use Rattle.eql_lane.specs.declared.ops.LaneReply.{LaneReply}
use Rattle.eql_lane.specs.declared.ops.LaneReply.TheVariants as lane_reply
use Rattle.eql_parts.specs.declared.ops.PartOp.TheVariants as part_op
use Rattle.eql_parts.specs.declared.ops.PartReply.{PartReply}
use Rattle.eql_parts.specs.declared.ops.PartReply.TheVariants as part_reply
use Rattle.eql_turn_lock.specs.declared.view.View.{View}
use Rattle.eql_turn_lock.specs.declared.refused.NotNow.TheVariants.{Busy, Worn}
use Rattle.eql_turn_lock.specs.Calls.{IsUnplayed, MeetsIdle, PlaysOnce, Refuses}
use Rattle.eql_hub.specs.declared.step.Did.{Did}
use Rattle.eql_hub.specs.declared.step.Did.TheVariants as did
use Rattle.eql_hub.specs.declared.step.HandFault.TheVariants as fault
use Rattle.eql_hub.specs.Hands.{HandView, LaneKnown, PartKnown}
use Rattle.eql_hub.specs.Turns.{IsLaneTurn, IsPartTurn, is_idle_lane, is_idle_part, is_open_lane, is_open_part}

-- two lists are related so, place by place
pub record EachIsRelated {X : Type 0} (Related : X → X → Type 0) (old new : List X) : Type 0 where
  pub count : length new ≡ length old
  pub each : (k : ℕ) (v w : X) → slice_get old k ≡ Some v → slice_get new k ≡ Some w → Related v w

-- a pass after a step: it is the same pass, and has at most one entry more of its own
abbrev pub AddsAtMostOne : {T O R : Type 0} → View T O R → View T O R → Type 0
AddsAtMostOne v w = (w.number ≡ v.number) × (length w.mine ≤ length v.mine + 1)

-- so it is of each pass of a hand
pub record AddsAtMostOneEach {S L : Type 0} (old new : HandView S L) : Type 0 where
  pub lanes : EachIsRelated AddsAtMostOne old.lanes.views new.lanes.views
  pub parts : EachIsRelated AddsAtMostOne old.parts.views new.parts.views

-- ---- parts
-- the part answered a turn of the hand so
abbrev pub PartAnswers : (batch : ℕ) → PartReply → PartKnown → PartKnown → Type 0
PartAnswers batch reply v w = PlaysOnce IsPartTurn is_open_part v (part_op.Turn batch) reply w

-- the part's lock was busy: its word was odd, or moved between load and exchange
abbrev pub PartIsBusy : (batch : ℕ) → PartKnown → PartKnown → Type 0
PartIsBusy batch v w = (word : ℕ) × Refuses v (part_op.Turn batch) (Busy word (part_op.Turn batch)) w

-- the part's lock is worn
abbrev pub PartIsWorn : (batch : ℕ) → PartKnown → PartKnown → Type 0
PartIsWorn batch v w = (word : ℕ) × Refuses v (part_op.Turn batch) (Worn word (part_op.Turn batch)) w

-- the lock's word counts a history whose last reply was `Idle`, and nothing was played
abbrev pub PartMetIdle : PartKnown → PartKnown → Type 0
PartMetIdle v w = IsUnplayed v w × MeetsIdle IsPartTurn is_idle_part v w

-- nothing was to be done there: no event waits, or the lock was busy, or the last reply there said that no event waits
abbrev pub PartIsIdle : (batch : ℕ) → PartKnown → PartKnown → Type 0
PartIsIdle batch v w = PartAnswers batch part_reply.Idle v w ⊎ (PartIsBusy batch v w ⊎ PartMetIdle v w)

-- it wasn't tried, or nothing was to be done
abbrev pub PartIsQuiet : (batch : ℕ) → PartKnown → PartKnown → Type 0
PartIsQuiet batch v w = (w ≡ v) ⊎ PartIsIdle batch v w

-- the step ended at the part in a place with this result
abbrev pub PartEnds : (batch : ℕ) → Did → (place : ℕ) → PartKnown → PartKnown → Type 0
PartEnds batch (did.Turned part) place v w = (part ≡ place) × ((items : ℕ) × PartAnswers batch (part_reply.Turned items) v w)
PartEnds batch (did.Fault fault.Memory) place v w = (back : List Item) × ((items : ℕ) × PartAnswers batch (part_reply.Memory back items) v w)
PartEnds batch (did.Fault fault.Worn) place v w = PartIsWorn batch v w
PartEnds batch (did.Fault (fault.Limit of)) place v w = ⊥
PartEnds batch (did.Fault (fault.Read shard)) place v w = ⊥
PartEnds batch (did.Fed lane) place v w = ⊥
PartEnds batch did.Nothing place v w = ⊥

module _ {S L : Type 0} (left lent_as : S → Option (List ℕ)) (fault_plan : S → Option FaultPlan) (read_of : L → Reads) (batch : ℕ) where
  -- ---- lanes
  -- the lane answered a feed of the hand so
  abbrev pub LaneAnswers : LaneReply → LaneKnown S L → LaneKnown S L → Type 0
  LaneAnswers reply v w = PlaysOnce (IsLaneTurn left lent_as fault_plan read_of) is_open_lane v (lane_op.Feed batch) reply w

  -- the lane's lock was busy: its word was odd, or moved between load and exchange
  abbrev pub LaneIsBusy : LaneKnown S L → LaneKnown S L → Type 0
  LaneIsBusy v w = (word : ℕ) × Refuses v (lane_op.Feed batch) (Busy word (lane_op.Feed batch)) w

  -- the lane's lock is worn
  abbrev pub LaneIsWorn : LaneKnown S L → LaneKnown S L → Type 0
  LaneIsWorn v w = (word : ℕ) × Refuses v (lane_op.Feed batch) (Worn word (lane_op.Feed batch)) w

  -- the lock's word counts a history whose last reply was `Held` or `Closed`, and nothing was played
  abbrev pub LaneMetIdle : LaneKnown S L → LaneKnown S L → Type 0
  LaneMetIdle v w = IsUnplayed v w × MeetsIdle (IsLaneTurn left lent_as fault_plan read_of) is_idle_lane v w

  -- nothing was to be done there: the lane holds enough or is closed, or the lock was busy, or the last reply there said that the lane holds enough or is
  -- closed
  abbrev pub LaneIsIdle : LaneKnown S L → LaneKnown S L → Type 0
  LaneIsIdle v w = ((ready : ℕ) × LaneAnswers (lane_reply.Held ready) v w) ⊎ (LaneAnswers lane_reply.Closed v w ⊎ (LaneIsBusy v w ⊎ LaneMetIdle v w))

  -- it wasn't tried, or nothing was to be done
  abbrev pub LaneIsQuiet : LaneKnown S L → LaneKnown S L → Type 0
  LaneIsQuiet v w = (w ≡ v) ⊎ LaneIsIdle v w

  -- the step ended at the lane in a place with this result
  abbrev pub LaneEnds : Did → (place : ℕ) → LaneKnown S L → LaneKnown S L → Type 0
  LaneEnds (did.Fed lane) place v w = (lane ≡ place) × ((lines : ℕ) × LaneAnswers (lane_reply.Fed lines) v w)
  LaneEnds (did.Fault (fault.Read shard)) place v w = (shard ≡ place) × ((lines : ℕ) × LaneAnswers (lane_reply.Failed lines) v w)
  LaneEnds (did.Fault fault.Memory) place v w = (lines : ℕ) × LaneAnswers (lane_reply.Memory lines) v w
  LaneEnds (did.Fault (fault.Limit of)) place v w = LaneAnswers (lane_reply.Limit of) v w
  LaneEnds (did.Fault fault.Worn) place v w = LaneIsWorn v w
  LaneEnds (did.Turned part) place v w = ⊥
  LaneEnds did.Nothing place v w = ⊥

  -- nothing was to be done at the lane in a place, or the conductor alone feeds it and it wasn't tried
  abbrev pub LaneIsPassed : (alone : List Bool) → (place : ℕ) → LaneKnown S L → LaneKnown S L → Type 0
  LaneIsPassed alone place v w = LaneIsIdle v w ⊎ ((slice_get alone place ≡ Some true) × (w ≡ v))

  -- ---- the whole step
  -- nothing was to be done at any part, nor at any lane but those that the conductor alone feeds
  pub record FindsNothing (alone : List Bool) (old new : HandView S L) : Type 0 where
    pub lane_count : length new.lanes.views ≡ length old.lanes.views
    pub lanes : (k : ℕ) (v w : LaneKnown S L) → slice_get old.lanes.views k ≡ Some v → slice_get new.lanes.views k ≡ Some w → LaneIsPassed alone k v w
    pub parts : EachIsRelated (PartIsIdle batch) old.parts.views new.parts.views

  -- the step ended at a lane that hands feed too, and nothing was to be done where it was before
  pub record StepEndsAtLane (alone : List Bool) (answer : Did) (old new : HandView S L) : Type 0 where
    pub lane : ℕ
    pub shared : slice_get alone lane ≡ Some false
    pub before : LaneKnown S L
    pub after : LaneKnown S L
    pub was : slice_get old.lanes.views lane ≡ Some before
    pub is : slice_get new.lanes.views lane ≡ Some after
    pub ends : LaneEnds answer lane before after
    pub count : length new.lanes.views ≡ length old.lanes.views
    pub others : (k : ℕ) (v w : LaneKnown S L) → k ≢ lane → slice_get old.lanes.views k ≡ Some v → slice_get new.lanes.views k ≡ Some w → LaneIsQuiet v w
    pub parts : EachIsRelated (PartIsQuiet batch) old.parts.views new.parts.views

  -- the step ended at a part
  pub record StepEndsAtPart (answer : Did) (old new : HandView S L) : Type 0 where
    pub part : ℕ
    pub before : PartKnown
    pub after : PartKnown
    pub was : slice_get old.parts.views part ≡ Some before
    pub is : slice_get new.parts.views part ≡ Some after
    pub ends : PartEnds batch answer part before after
    pub count : length new.parts.views ≡ length old.parts.views
    pub others : (k : ℕ) (v w : PartKnown) → k ≢ part → slice_get old.parts.views k ≡ Some v → slice_get new.parts.views k ≡ Some w → PartIsQuiet batch v w
    pub lanes : EachIsRelated LaneIsQuiet old.lanes.views new.lanes.views

  -- what a step that returns this has done: each lane and part was tried once at most
  abbrev pub Steps : (alone : List Bool) → Did → HandView S L → HandView S L → Type 0
  Steps alone did.Nothing old new = FindsNothing alone old new
  Steps alone (did.Fed lane) old new = StepEndsAtLane alone (did.Fed lane) old new
  Steps alone (did.Turned part) old new = StepEndsAtPart (did.Turned part) old new
  Steps alone (did.Fault f) old new = StepEndsAtLane alone (did.Fault f) old new ⊎ StepEndsAtPart (did.Fault f) old new
