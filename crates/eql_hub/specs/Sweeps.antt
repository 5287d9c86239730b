-- How a hand goes over its places: the lanes, and behind them the parts.
use Rattle.std.specs.Prelude.{◌≡◌, ◌⊎◌, ◌<◌, ◌≤◌, ◌+◌, ℕ, Bool, false, List, Option, None, Some, length, slice_get}
use Rattle.eql_values.specs.Accepted.{Reads}
use Rattle.eql_outside.specs.Plans.{FaultPlan}
use Rattle.eql_lane.specs.declared.ops.LaneOp.{LaneOp}
use Rattle.eql_lane.specs.declared.ops.LaneReply.{LaneReply}
use Rattle.eql_lane.specs.declared.ops.LaneReply.TheVariants as lane_reply
use Rattle.eql_parts.specs.declared.ops.PartOp.{PartOp}
use Rattle.eql_parts.specs.declared.ops.PartReply.{PartReply}
use Rattle.eql_parts.specs.declared.ops.PartReply.TheVariants as part_reply
use Rattle.eql_turn_lock.specs.declared.tried.Tried.{Tried}
use Rattle.eql_turn_lock.specs.declared.tried.Tried.TheVariants.{Idle, Played, Refused}
use Rattle.eql_turn_lock.specs.declared.refused.NotNow.{NotNow}
use Rattle.eql_turn_lock.specs.declared.refused.NotNow.TheVariants.{Busy, Worn}
use Rattle.eql_turn_lock.specs.Passes.{KnowsHistory}
use Rattle.eql_lock_row.specs.Rows.{ChangesAt}
use Rattle.eql_hub.specs.declared.step.Did.{Did}
use Rattle.eql_hub.specs.declared.step.Did.TheVariants as did
use Rattle.eql_hub.specs.declared.step.HandFault.TheVariants as fault
use Rattle.eql_hub.specs.Hands.{HandView, Knows, LaneKnown, PartKnown}
use Rattle.eql_hub.specs.Steps.{LaneEnds, LaneIsPassed, PartEnds, PartIsIdle}
use Rattle.eql_hub.specs.Turns.{IsLaneTurn, IsPartTurn, is_open_lane, is_open_part}

-- what the answer of a feed ends the step with, if with anything
abbrev pub fed_with : (lane : ℕ) → LaneReply → Option Did
fed_with lane (lane_reply.Fed lines) = Some (did.Fed lane)
fed_with lane (lane_reply.Failed lines) = Some (did.Fault (fault.Read lane))
fed_with lane (lane_reply.Limit of) = Some (did.Fault (fault.Limit of))
fed_with lane (lane_reply.Memory lines) = Some (did.Fault fault.Memory)
fed_with lane (lane_reply.Held ready) = None
fed_with lane lane_reply.Closed = None
fed_with lane (lane_reply.Taken items) = None
fed_with lane (lane_reply.Low mark) = None
fed_with lane (lane_reply.Cut cut) = None

-- what the answer of a turn ends the step with
abbrev pub turned_with : (part : ℕ) → PartReply → Option Did
turned_with part (part_reply.Turned items) = Some (did.Turned part)
turned_with part (part_reply.Memory back items) = Some (did.Fault fault.Memory)
turned_with part part_reply.Idle = None
turned_with part part_reply.Done = None
turned_with part (part_reply.Found found done) = None
turned_with part (part_reply.Cut holders) = None

-- what a refusal ends it with
abbrev pub refused_with : {O : Type 0} → NotNow O → Option Did
refused_with (Busy word op) = None
refused_with (Worn word op) = Some (did.Fault fault.Worn)

abbrev pub tried_lane : (lane : ℕ) → Tried LaneReply LaneOp → Option Did
tried_lane lane (Idle op) = None
tried_lane lane (Played reply) = fed_with lane reply
tried_lane lane (Refused refused) = refused_with refused

abbrev pub tried_part : (part : ℕ) → Tried PartReply PartOp → Option Did
tried_part part (Idle op) = None
tried_part part (Played reply) = turned_with part reply
tried_part part (Refused refused) = refused_with refused

-- what a step did that ended in a place, or in none
abbrev pub did_in : Option (ℕ × Did) → Did
did_in None = did.Nothing
did_in (Some (place, answer)) = answer

module _ {S L : Type 0} (left lent_as : S → Option (List ℕ)) (fault_plan : S → Option FaultPlan) (read_of : L → Reads) (batch : ℕ) where
  -- n lanes, of which the conductor alone feeds some: nothing was to be done by a hand in the places from the one up to the other, and elsewhere nothing
  -- was tried
  pub record PassesPlaces (alone : List Bool) (n from to : ℕ) (old new : HandView S L) : Type 0 where
    pub lane_locks : new.lanes.locks ≡ old.lanes.locks
    pub part_locks : new.parts.locks ≡ old.parts.locks
    pub lane_count : length new.lanes.views ≡ length old.lanes.views
    pub part_count : length new.parts.views ≡ length old.parts.views
    pub lanes_in : (k : ℕ) (v w : LaneKnown S L) → k < n → from ≤ k → k < to → slice_get old.lanes.views k ≡ Some v → slice_get new.lanes.views k ≡ Some w
        → LaneIsPassed left lent_as fault_plan read_of batch alone k v w
    pub lanes_out : (k : ℕ) → (k < from) ⊎ (to ≤ k) → slice_get new.lanes.views k ≡ slice_get old.lanes.views k
    pub parts_in : (k : ℕ) (v w : PartKnown) → from ≤ n + k → n + k < to → slice_get old.parts.views k ≡ Some v → slice_get new.parts.views k ≡ Some w
        → PartIsIdle batch v w
    pub parts_out : (k : ℕ) → (n + k < from) ⊎ (to ≤ n + k) → slice_get new.parts.views k ≡ slice_get old.parts.views k
    pub knows : Knows left lent_as fault_plan read_of old → Knows left lent_as fault_plan read_of new

  -- the step ended at a lane, and nothing else was tried
  pub record EndsAtLane (lane : ℕ) (answer : Did) (old new : HandView S L) : Type 0 where
    pub lane_locks : new.lanes.locks ≡ old.lanes.locks
    pub changes : ChangesAt lane (λ (v w : LaneKnown S L). LaneEnds left lent_as fault_plan read_of batch answer lane v w
        × KnowsHistory (IsLaneTurn left lent_as fault_plan read_of) is_open_lane w) old.lanes.views new.lanes.views
    pub parts : new.parts ≡ old.parts

  -- the step ended at a part, and nothing else was tried
  pub record EndsAtPart (part : ℕ) (answer : Did) (old new : HandView S L) : Type 0 where
    pub part_locks : new.parts.locks ≡ old.parts.locks
    pub changes : ChangesAt part (λ (v w : PartKnown). PartEnds batch answer part v w × KnowsHistory IsPartTurn is_open_part w) old.parts.views new.parts.views
    pub lanes : new.lanes ≡ old.lanes

  -- the step ended in a place: at a lane that hands feed too, or at a part
  pub record EndsAt (alone : List Bool) (n place : ℕ) (answer : Did) (old new : HandView S L) : Type 0 where
    pub ends : ((place < n) × (slice_get alone place ≡ Some false) × EndsAtLane place answer old new) ⊎ ((part : ℕ) × (place ≡ n + part) × EndsAtPart part answer old new)

  -- nothing was to be done in the places before, and then it ended
  pub record StopsAt (alone : List Bool) (n from to place : ℕ) (answer : Did) (old new : HandView S L) : Type 0 where
    pub from_place : from ≤ place
    pub to_place : place < to
    pub mid : HandView S L
    pub passed : PassesPlaces alone n from place old mid
    pub ends : EndsAt alone n place answer mid new

  -- where a sweep ended, if it did
  abbrev pub SweepEnds : (alone : List Bool) → (n from to : ℕ) → Option (ℕ × Did) → HandView S L → HandView S L → Type 0
  SweepEnds alone n from to None old new = PassesPlaces alone n from to old new
  SweepEnds alone n from to (Some (place, answer)) old new = StopsAt alone n from to place answer old new

  -- what one try did
  abbrev pub TriesPlace : (alone : List Bool) → (n place : ℕ) → Option Did → HandView S L → HandView S L → Type 0
  TriesPlace alone n place None old new = PassesPlaces alone n place (place + 1) old new
  TriesPlace alone n place (Some answer) old new = EndsAt alone n place answer old new
