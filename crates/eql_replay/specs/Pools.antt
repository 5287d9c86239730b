-- What plays do to lanes and parts in lists.
use Rattle.std.specs.Prelude.{◌≡◌, ◌≤◌, ◌<◌, ℕ, List, [], ◌∷◌, Option, Some, slice_get, slice_set}
use Rattle.eql_values.specs.Accepted.{Reads}
use Rattle.eql_outside.specs.Plans.{FaultPlan}
use Rattle.eql_outside.specs.Unfailing.{IsUnfailing}
use Rattle.eql_lane.specs.declared.ops.LaneOp.{LaneOp}
use Rattle.eql_lane.specs.declared.ops.LaneOp.TheVariants as lane_op
use Rattle.eql_lane.specs.declared.ops.LaneReply.{LaneReply}
use Rattle.eql_lane.specs.Plays.{Plays, DidNotFail}
use Rattle.eql_lane.specs.Views.{IsSameLane, LaneView}
use Rattle.eql_parts.specs.declared.ops.PartOp.{PartOp}
use Rattle.eql_parts.specs.declared.ops.PartOp.TheVariants as part_op
use Rattle.eql_parts.specs.declared.ops.PartReply.{PartReply}
use Rattle.eql_parts.specs.PartSteps.{PartView, IsPartStep}
use Rattle.eql_conductor.specs.Lists.{PoolView}
use Rattle.eql_replay.specs.declared.foreign.Foreign.{Foreign}
use Rattle.eql_replay.specs.declared.foreign.Foreign.TheVariants.{Feed, Turn}

-- the place is there, and as many may be read or played
abbrev pub IsPlay : (lanes parts : ℕ) → Foreign → Type 0
IsPlay lanes parts (Feed lane max) = (lane < lanes) × (1 ≤ max) × (max ≤ 4096)
IsPlay lanes parts (Turn part max) = (part < parts) × (1 ≤ max) × (max ≤ 4096)

-- the part in a place played an operation with this answer, and the others are as they were
pub record PlaysPartAt (p : ℕ) (op : PartOp) (reply : PartReply) (old new : List PartView) : Type 0 where
  pub before : PartView
  pub after : PartView
  pub was : slice_get old p ≡ Some before
  pub is : new ≡ slice_set old p after
  pub step : IsPartStep before.rules before.state op reply after.state
  pub rules : after.rules ≡ before.rules

module _ {S L : Type 0} (left lent_as : S → Option (List ℕ)) (fault_plan : S → Option FaultPlan) (read_of : L → Reads) where
  -- the lane in a place played an operation with this answer, and the others are as they were
  pub record PlaysLaneAt (s : ℕ) (op : LaneOp) (reply : LaneReply) (old new : List (LaneView S L)) : Type 0 where
    pub before : LaneView S L
    pub after : LaneView S L
    pub was : slice_get old s ≡ Some before
    pub is : new ≡ slice_set old s after
    pub plays : Plays left read_of before op reply after
    pub same : IsSameLane left lent_as read_of before after
    pub unfailing : IsUnfailing (fault_plan before.source) → DidNotFail reply × IsUnfailing (fault_plan after.source)

  -- others played this
  abbrev pub ForeignPlays : Foreign → (old new : PoolView S L) → Type 0
  ForeignPlays (Feed lane max) old new = (reply : LaneReply) × PlaysLaneAt lane (lane_op.Feed max) reply old.lanes new.lanes × (new.parts ≡ old.parts)
  ForeignPlays (Turn part max) old new = (reply : PartReply) × PlaysPartAt part (part_op.Turn max) reply old.parts new.parts × (new.lanes ≡ old.lanes)

  -- others played these, in order
  abbrev pub ForeignsPlay : List Foreign → (old new : PoolView S L) → Type 0
  ForeignsPlay [] old new = new ≡ old
  ForeignsPlay (f ∷ fs) old new = (mid : PoolView S L) × ForeignPlays f old mid × ForeignsPlay fs mid new
