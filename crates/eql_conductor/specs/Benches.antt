-- What is known of a bench, and what a call leaves known.
use Rattle.std.specs.Prelude.{◌≡◌, ◌≢◌, ◌<◌, ◌≤◌, ◌^◌, ◌++◌, ℕ, zero, suc, List, [], ◌∷◌}
use Rattle.eql_lane.specs.declared.ops.LaneOp.{LaneOp}
use Rattle.eql_lane.specs.declared.ops.LaneReply.{LaneReply}
use Rattle.eql_lane.specs.declared.ops.LaneReply.TheVariants.{Failed}
use Rattle.eql_lane.specs.Lanes.{Setting, LaneState, IsFeedStep, IsLaneStep}
use Rattle.eql_parts.specs.declared.ops.PartOp.{PartOp}
use Rattle.eql_parts.specs.declared.ops.PartReply.{PartReply}
use Rattle.eql_parts.specs.PartSteps.{Rules, PartState, IsTurnStep, IsPartStep, PartAllows}
use Rattle.eql_conductor.specs.declared.note.Note.{Note}
use Rattle.eql_conductor.specs.declared.bench.NotPlayed.{NotPlayed}
use Rattle.eql_conductor.specs.declared.bench.NotPlayed.TheVariants.{Worn, Memory}
use Rattle.eql_conductor.specs.Notes.{lane_note, part_note}

-- what is known of a bench: how many lanes and parts it has; of each lane and part what no step changes, the states that it may have now, and
-- what the caller itself played there; of each lane how many of the caller's feeds failed there; and at how many of its calls a lock was worn
pub record Known : Type 1 where
  pub lanes : ℕ
  pub parts : ℕ
  pub set : ℕ → Setting
  pub rules : ℕ → Rules
  pub lane : ℕ → LaneState → Type 0
  pub part : ℕ → PartState → Type 0
  pub lane_notes : ℕ → List Note
  pub part_notes : ℕ → List Note
  pub failed : ℕ → ℕ
  pub worn : ℕ

-- what no step changes is the same, and each lane and part that might have a state has one
pub record StaysSame (old new : Known) : Type 0 where
  pub lanes : new.lanes ≡ old.lanes
  pub parts : new.parts ≡ old.parts
  pub set : (s : ℕ) → s < old.lanes → new.set s ≡ old.set s
  pub rules : (p : ℕ) → p < old.parts → new.rules p ≡ old.rules p
  pub some_lane : (s : ℕ) → s < old.lanes → ((x : LaneState) × old.lane s x) → (y : LaneState) × new.lane s y
  pub some_part : (p : ℕ) → p < old.parts → ((x : PartState) × old.part p x) → (y : PartState) × new.part p y

-- ---- what others do: they feed lanes, and turn parts
-- from the one state, so many feeds lead to the other
abbrev pub FeedsTimes : Setting → ℕ → LaneState → LaneState → Type 0
FeedsTimes set zero old new = new ≡ old
FeedsTimes set (suc n) old new = (mid : LaneState) × (max : ℕ) × (reply : LaneReply) × IsFeedStep set old max reply mid × FeedsTimes set n mid new

abbrev pub ComesByFeeds : Setting → LaneState → LaneState → Type 0
ComesByFeeds set old new = (n : ℕ) × FeedsTimes set n old new

-- from the one state, so many turns lead to the other
abbrev pub TurnsTimes : Rules → ℕ → PartState → PartState → Type 0
TurnsTimes rules zero old new = new ≡ old
TurnsTimes rules (suc n) old new = (mid : PartState) × (max : ℕ) × (reply : PartReply) × IsTurnStep rules old max reply mid × TurnsTimes rules n mid new

abbrev pub ComesByTurns : Rules → PartState → PartState → Type 0
ComesByTurns rules old new = (n : ℕ) × TurnsTimes rules n old new

-- each state that a lane may have now comes by feeds of others from one that it might have
abbrev pub LeavesLane : Setting → (LaneState → Type 0) → (LaneState → Type 0) → Type 0
LeavesLane set old new = (y : LaneState) → new y → (x : LaneState) × old x × ComesByFeeds set x y

-- each state that a part may have now comes by turns of others from one that it might have
abbrev pub LeavesPart : Rules → (PartState → Type 0) → (PartState → Type 0) → Type 0
LeavesPart rules old new = (y : PartState) → new y → (x : PartState) × old x × ComesByTurns rules x y

pub record LanesRest (old new : Known) : Type 0 where
  pub each : (s : ℕ) → s < old.lanes → LeavesLane (old.set s) (old.lane s) (new.lane s)

pub record PartsRest (old new : Known) : Type 0 where
  pub each : (p : ℕ) → p < old.parts → LeavesPart (old.rules p) (old.part p) (new.part p)

-- only others played
pub record Rests (old new : Known) : Type 0 where
  pub same : StaysSame old new
  pub lanes : LanesRest old new
  pub parts : PartsRest old new

-- the caller's notes stay
pub record LaneNotesStay (old new : Known) : Type 0 where
  pub each : (s : ℕ) → s < old.lanes → new.lane_notes s ≡ old.lane_notes s

pub record PartNotesStay (old new : Known) : Type 0 where
  pub each : (p : ℕ) → p < old.parts → new.part_notes p ≡ old.part_notes p

-- no feed of the caller failed
abbrev pub NoFeedFailed : Known → Known → Type 0
NoFeedFailed old new = (s : ℕ) → new.failed s ≡ old.failed s

-- ---- what a call does
-- a state that a lane may have after a call: it comes by feeds of others and then the operation from one that it might have
pub record CallsLane (set : Setting) (might : LaneState → Type 0) (op : LaneOp) (reply : LaneReply) (now : LaneState) : Type 0 where
  pub first : LaneState
  pub before : LaneState
  pub was : might first
  pub fed : ComesByFeeds set first before
  pub step : IsLaneStep set before op reply now

-- a state that a part may have after a call: it comes by turns of others and then the operation from one that it might have
pub record CallsPart (rules : Rules) (might : PartState → Type 0) (op : PartOp) (reply : PartReply) (now : PartState) : Type 0 where
  pub first : PartState
  pub before : PartState
  pub was : might first
  pub turned : ComesByTurns rules first before
  pub step : IsPartStep rules before op reply now

-- the number of a lane's feeds that failed rises where this one failed, and only there
abbrev pub FailsBy : LaneReply → ℕ → ℕ → Type 0
FailsBy (Failed n) old new = old < new
FailsBy reply old new = new ≡ old

-- an operation was played on a lane, which has a state; the other lanes and all parts were left to others
pub record LanePlays (s : ℕ) (op : LaneOp) (reply : LaneReply) (old new : Known) : Type 0 where
  pub same : StaysSame old new
  pub called : (y : LaneState) → new.lane s y → CallsLane (old.set s) (old.lane s) op reply y
  pub some : (y : LaneState) × new.lane s y
  pub others : (k : ℕ) → k < old.lanes → k ≢ s → LeavesLane (old.set k) (old.lane k) (new.lane k)
  pub parts : PartsRest old new
  pub note : new.lane_notes s ≡ old.lane_notes s ++ lane_note op reply ∷ []
  pub other_notes : (k : ℕ) → k < old.lanes → k ≢ s → new.lane_notes k ≡ old.lane_notes k
  pub part_notes : PartNotesStay old new
  pub failed : FailsBy reply (old.failed s) (new.failed s)
  pub others_failed : (k : ℕ) → k ≢ s → new.failed k ≡ old.failed k
  pub worn : new.worn ≡ old.worn

-- an operation was played on a part, which has a state; the other parts and all lanes were left to others
pub record PartPlays (p : ℕ) (op : PartOp) (reply : PartReply) (old new : Known) : Type 0 where
  pub same : StaysSame old new
  pub called : (y : PartState) → new.part p y → CallsPart (old.rules p) (old.part p) op reply y
  pub some : (y : PartState) × new.part p y
  pub others : (k : ℕ) → k < old.parts → k ≢ p → LeavesPart (old.rules k) (old.part k) (new.part k)
  pub lanes : LanesRest old new
  pub note : new.part_notes p ≡ old.part_notes p ++ part_note op reply ∷ []
  pub other_notes : (k : ℕ) → k < old.parts → k ≢ p → new.part_notes k ≡ old.part_notes k
  pub lane_notes : LaneNotesStay old new
  pub failed : NoFeedFailed old new
  pub worn : new.worn ≡ old.worn

-- a lock was worn at a word of at least 2^63, or there was no room for a note
abbrev pub IsWornBy : NotPlayed → ℕ → ℕ → Type 0
IsWornBy (Worn word) old new = (2 ^ 63 ≤ word) × (old < new)
IsWornBy Memory old new = new ≡ old

-- the operation wasn't played
pub record WasNotPlayed (by : NotPlayed) (old new : Known) : Type 0 where
  pub rests : Rests old new
  pub lane_notes : LaneNotesStay old new
  pub part_notes : PartNotesStay old new
  pub failed : NoFeedFailed old new
  pub worn : IsWornBy by old.worn new.worn

-- the operation is allowed in each state that the part may have
abbrev pub MayPlay : Known → ℕ → PartOp → Type 0
MayPlay old p op = (x : PartState) → old.part p x → PartAllows x op
