-- What a hand did in a thread of its own.
use Rattle.std.specs.Prelude.{◌≡◌, ◌⊎◌, ◌≤◌, ◌^◌, ◌++◌, ℕ, List, [], ◌∷◌, Option, None, Some, All, IfSome, length, slice_get}
use Rattle.std.specs.List.{count_by}
use Rattle.eql_lane.specs.declared.ops.LaneOp.{LaneOp}
use Rattle.eql_lane.specs.declared.ops.LaneReply.{LaneReply}
use Rattle.eql_lane.specs.declared.ops.LaneReply.TheVariants as lane_reply
use Rattle.eql_lane.specs.declared.ops.ShardLimit.{ShardLimit}
use Rattle.eql_turn_lock.specs.declared.history.Entry.{Entry}
use Rattle.eql_turn_lock.specs.declared.view.View.{View}
use Rattle.eql_hub.specs.declared.step.HandFault.{HandFault}
use Rattle.eql_hub.specs.declared.step.HandFault.TheVariants as fault
use Rattle.eql_hub.specs.Hands.{HandView, HubView, IsHandOf, LaneKnown, PartKnown}
use Rattle.eql_lock_bench.specs.Locked.{entry_failed}

-- one of the list is so
pub record Has {X : Type 0} (P : X → Type 0) (list : List X) : Type 0 where
  pub front : List X
  pub one : X
  pub back : List X
  pub is : list ≡ front ++ one ∷ back
  pub so : P one

-- what stands in a place is so
pub record HoldsAtPlace {X : Type 0} (list : List X) (place : ℕ) (P : X → Type 0) : Type 0 where
  pub one : X
  pub there : slice_get list place ≡ Some one
  pub so : P one

-- a lane answered that its source failed, and that it is at a limit
abbrev pub IsFailure : Entry LaneOp LaneReply → Type 0
IsFailure entry = (lines : ℕ) × (entry.reply ≡ lane_reply.Failed lines)

abbrev pub IsLimit : ShardLimit → Entry LaneOp LaneReply → Type 0
IsLimit of entry = entry.reply ≡ lane_reply.Limit of

-- a pass met a worn word
abbrev pub MeetsWorn : {T O R : Type 0} → View T O R → Type 0
MeetsWorn view = Has (λ (word : ℕ). 2 ^ 63 ≤ word) view.looked

-- it has at most so many entries of its own
abbrev pub HasFew : {T O R : Type 0} → View T O R → Type 0
HasFew view = length view.mine ≤ 2 ^ 40

-- it isn't that a source failed
abbrev pub IsNoRead : Option HandFault → Type 0
IsNoRead None = Unit {0}
IsNoRead (Some (fault.Read shard)) = ⊥
IsNoRead (Some fault.Memory) = Unit {0}
IsNoRead (Some (fault.Limit of)) = Unit {0}
IsNoRead (Some fault.Worn) = Unit {0}

module _ {S L : Type 0} where
  -- the hand met this fault: at which lane or part, and by which entry or word
  abbrev pub HandMeets : HandView S L → HandFault → Type 0
  HandMeets hand (fault.Read shard) = HoldsAtPlace hand.lanes.views shard (λ (view : LaneKnown S L). Has IsFailure view.mine)
  HandMeets hand fault.Memory = Unit {0}
  HandMeets hand (fault.Limit of) = (place : ℕ) × HoldsAtPlace hand.lanes.views place (λ (view : LaneKnown S L). Has (IsLimit of) view.mine)
  HandMeets hand fault.Worn = ((place : ℕ) × HoldsAtPlace hand.lanes.views place (λ (view : LaneKnown S L). MeetsWorn view))
      ⊎ ((place : ℕ) × HoldsAtPlace hand.parts.views place (λ (view : PartKnown). MeetsWorn view))

  -- a hand that began with no entries of its own ran, and met this fault or none
  pub record HandDid (met : Option HandFault) (hand : HandView S L) : Type 0 where
    pub few_lanes : All (λ (view : LaneKnown S L). HasFew view) hand.lanes.views
    pub few_parts : All (λ (view : PartKnown). HasFew view) hand.parts.views
    pub quiet : IsNoRead met → All (λ (view : LaneKnown S L). count_by entry_failed view.mine ≡ 0) hand.lanes.views
    pub fault_is : IfSome met (HandMeets hand)

  -- a hand that has played nothing yet
  pub record HasNone (hand : HandView S L) : Type 0 where
    pub lanes : All (λ (view : LaneKnown S L). view.mine ≡ []) hand.lanes.views
    pub parts : All (λ (view : PartKnown). view.mine ≡ []) hand.parts.views

-- ---- workers
-- a hand, the number by which it passes the gate, and the fault that it met
pub record WorkerView (S L : Type 0) : Type 0 where
  pub hand : Option (HandView S L)
  pub number : ℕ
  pub met : Option HandFault

module _ {S L : Type 0} (hub : HubView) where
  -- it is a hand of this hub, with a pass of each lock
  pub record IsWhole (hand : HandView S L) : Type 0 where
    pub own : IsHandOf hub hand
    pub lane_count : length hand.lanes.views ≡ length hub.lanes
    pub part_count : length hand.parts.views ≡ length hub.parts

  -- a worker that is about to play, and one that played
  abbrev pub MayStart : WorkerView S L → Type 0
  MayStart worker = (hand : HandView S L) × (worker.hand ≡ Some hand) × IsWhole hand × HasNone hand

  abbrev pub HasPlayed : WorkerView S L → Type 0
  HasPlayed worker = (hand : HandView S L) × (worker.hand ≡ Some hand) × IsWhole hand × HandDid worker.met hand
