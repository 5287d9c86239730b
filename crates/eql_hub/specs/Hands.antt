-- A hub and its hands as their callers see them.
use Rattle.std.specs.Prelude.{◌≡◌, ℕ, Bool, true, false, List, Option}
use Rattle.std.specs.List.{AllZip}
use Rattle.atomic_table.specs.Seated.{TableId}
use Rattle.eql_values.specs.Accepted.{Reads}
use Rattle.eql_outside.specs.declared.supply.Supply.{Supply}
use Rattle.eql_outside.specs.declared.supply.Supply.TheVariants as supply
use Rattle.eql_outside.specs.Plans.{FaultPlan}
use Rattle.eql_lane.specs.declared.ops.LaneOp.{LaneOp}
use Rattle.eql_lane.specs.declared.ops.LaneReply.{LaneReply}
use Rattle.eql_lane.specs.Views.{LaneView}
use Rattle.eql_parts.specs.declared.ops.PartOp.{PartOp}
use Rattle.eql_parts.specs.declared.ops.PartReply.{PartReply}
use Rattle.eql_parts.specs.PartSteps.{PartView}
use Rattle.eql_turn_lock.specs.declared.view.View.{View}
use Rattle.eql_turn_lock.specs.History.{StartsWith}
use Rattle.eql_lock_row.specs.Rows.{AllAreJoined, AllKnow, AreFirst, RowView}
use Rattle.eql_hub.specs.Turns.{IsLaneTurn, IsPartTurn, is_open_lane, is_open_part}

-- what is known of a lane, and of a part, by a pass of its lock
abbrev pub LaneKnown : (S L : Type 0) → Type 0
LaneKnown S L = View (LaneView S L) LaneOp LaneReply

abbrev pub PartKnown : Type 0
PartKnown = View PartView PartOp PartReply

-- a take may wait for as long as nobody writes
abbrev pub may_pause : Supply → Bool
may_pause supply.Untold = false
may_pause (supply.File bytes) = false
may_pause supply.Pausing = true

-- whether the conductor alone feeds the lane, so that no hand waits in it for a writer
abbrev pub is_fed_alone : {S L : Type 0} → (S → Supply) → LaneView S L → Bool
is_fed_alone supply_of lane = may_pause (supply_of lane.source)

-- which locks the lanes and the parts have, and which of the lanes the conductor alone feeds
pub record HubView : Type 0 where
  pub lanes : List TableId
  pub parts : List TableId
  pub alone : List Bool

-- a pass of each lane and of each part
pub record HandView (S L : Type 0) : Type 0 where
  pub lanes : RowView (LaneView S L) LaneOp LaneReply
  pub parts : RowView PartView PartOp PartReply

module _ {S L : Type 0} where
  -- it is a hand of this hub
  pub record IsHandOf (hub : HubView) (hand : HandView S L) : Type 0 where
    pub lanes : hand.lanes.locks ≡ hub.lanes
    pub parts : hand.parts.locks ≡ hub.parts

  -- it is the first hand
  pub record IsFirst (hand : HandView S L) : Type 0 where
    pub lanes : AreFirst hand.lanes.views
    pub parts : AreFirst hand.parts.views

  -- all other hands were joined into it
  pub record AreAllJoined (hand : HandView S L) : Type 0 where
    pub lanes : AllAreJoined hand.lanes.views
    pub parts : AllAreJoined hand.parts.views

  -- what each pass of the one has seen begins with what the pass of the other has seen
  pub record AllBegin (hand other : HandView S L) : Type 0 where
    pub lanes : AllZip (λ (v w : LaneKnown S L). StartsWith v.seen w.seen) hand.lanes.views other.lanes.views
    pub parts : AllZip (λ (v w : PartKnown). StartsWith v.seen w.seen) hand.parts.views other.parts.views

  -- what each pass has seen is a legal history of its lane or part, with its own entries
  pub record Knows (left lent_as : S → Option (List ℕ)) (fault_plan : S → Option FaultPlan) (read_of : L → Reads) (hand : HandView S L) : Type 0 where
    pub lanes : AllKnow (IsLaneTurn left lent_as fault_plan read_of) is_open_lane hand.lanes.views
    pub parts : AllKnow IsPartTurn is_open_part hand.parts.views
