-- How hands are split off the first one, and what it knows once they were joined into it.
use Rattle.std.specs.Prelude.{◌≡◌, ◌⊎◌, ◌≤◌, ◌+◌, ◌^◌, ℕ, List, [], Some, All, IfSome, length, slice_get, Err}
use Rattle.std.specs.List.{count_by}
use Rattle.eql_lane.specs.declared.ops.LaneOp.{LaneOp}
use Rattle.eql_lane.specs.declared.ops.LaneReply.{LaneReply}
use Rattle.eql_lane.specs.Views.{LaneView}
use Rattle.eql_parts.specs.declared.ops.PartOp.{PartOp}
use Rattle.eql_parts.specs.declared.ops.PartReply.{PartReply}
use Rattle.eql_parts.specs.PartSteps.{PartView}
use Rattle.eql_turn_lock.specs.declared.view.Ended.{Ended}
use Rattle.eql_turn_lock.specs.declared.view.View.{View}
use Rattle.eql_turn_lock.specs.History.{StartsWith}
use Rattle.eql_conductor.specs.declared.stop.Stop.{Stop}
use Rattle.eql_conductor.specs.declared.stop.Stop.TheVariants as stop
use Rattle.eql_conductor.specs.Going.{RunResult}
use Rattle.eql_hub.specs.declared.step.HandFault.{HandFault}
use Rattle.eql_hub.specs.declared.step.HandFault.TheVariants as fault
use Rattle.eql_hub.specs.Hands.{HandView, LaneKnown, PartKnown}
use Rattle.eql_lock_bench.specs.Locked.{entry_failed}
use Rattle.eql_hub_run.specs.Beside.{rank, stop_rank}
use Rattle.eql_hub_run.specs.Workers.{Has, WorkerView}

-- ---- the first hand after splits
-- a first pass of a lock round this value: it has seen, called and met nothing, none was joined into it, and so many were split off
pub record IsUnplayed {T O R : Type 0} (made : ℕ) (value : T) (view : View T O R) : Type 0 where
  pub number : view.number ≡ 0
  pub opening : view.opening ≡ Some value
  pub seen : view.seen ≡ []
  pub mine : view.mine ≡ []
  pub looked : view.looked ≡ []
  pub ended : view.ended ≡ []
  pub made_is : view.made ≡ made

-- and so it is of each value, in order
pub record AreUnplayed {T O R : Type 0} (made : ℕ) (values : List T) (views : List (View T O R)) : Type 0 where
  pub count : length views ≡ length values
  pub each : (k : ℕ) (value : T) (view : View T O R) → slice_get values k ≡ Some value → slice_get views k ≡ Some view → IsUnplayed made value view

pub record IsUnplayedHand {S L : Type 0} (made : ℕ) (lanes : List (LaneView S L)) (parts : List PartView) (hand : HandView S L) : Type 0 where
  pub lanes_are : AreUnplayed made lanes hand.lanes.views
  pub parts_are : AreUnplayed made parts hand.parts.views

-- ---- joined hands
-- what is kept of a pass that was joined in
pub record IsEndOf {T O R : Type 0} (view : View T O R) (kept : Ended O R) : Type 0 where
  pub mine : kept.mine ≡ view.mine
  pub looked : kept.looked ≡ view.looked

-- so many were joined in, all of these are so, and else the pass is as it was but that it has seen more
pub record TookIn {T O R : Type 0} (Fine : Ended O R → Type 0) (n : ℕ) (old new : View T O R) : Type 0 where
  pub number : new.number ≡ old.number
  pub opening : new.opening ≡ old.opening
  pub mine : new.mine ≡ old.mine
  pub looked : new.looked ≡ old.looked
  pub made : new.made ≡ old.made
  pub seen : StartsWith new.seen old.seen
  pub count : length new.ended ≡ length old.ended + n
  pub fine : All Fine old.ended → All Fine new.ended

-- of a pass that was joined in there is what is kept
abbrev pub IsKept : {T O R : Type 0} → List (View T O R) → List (View T O R) → Type 0
IsKept {T} {O} {R} views others = (k : ℕ) (view other : View T O R) → slice_get views k ≡ Some view → slice_get others k ≡ Some other → Has (IsEndOf other) view.ended

-- it has few entries
abbrev pub PartIsFine : Ended PartOp PartReply → Type 0
PartIsFine kept = length kept.mine ≤ 2 ^ 40

-- and none failed while it was quiet
abbrev pub LaneIsFine : (quiet : Type 0) → Ended LaneOp LaneReply → Type 0
LaneIsFine quiet kept = (length kept.mine ≤ 2 ^ 40) × (quiet → count_by entry_failed kept.mine ≡ 0)

module _ {S L : Type 0} where
  -- these hands were joined into the first one, which was the one and is the other
  pub record GathersHands (quiet : Type 0) (hands : List (HandView S L)) (old new : HandView S L) : Type 0 where
    pub lane_count : length new.lanes.views ≡ length old.lanes.views
    pub part_count : length new.parts.views ≡ length old.parts.views
    pub lanes : (k : ℕ) (v w : LaneKnown S L) → slice_get old.lanes.views k ≡ Some v → slice_get new.lanes.views k ≡ Some w → TookIn (LaneIsFine quiet) (length hands) v w
    pub parts : (k : ℕ) (v w : PartKnown) → slice_get old.parts.views k ≡ Some v → slice_get new.parts.views k ≡ Some w → TookIn PartIsFine (length hands) v w
    pub kept : All (λ (hand : HandView S L). IsKept new.lanes.views hand.lanes.views × IsKept new.parts.views hand.parts.views) hands

  -- the hands of workers
  abbrev pub HandsAre : List (WorkerView S L) → List (HandView S L) → Type 0
  HandsAre workers hands = (length hands ≡ length workers)
      × ((k : ℕ) (worker : WorkerView S L) → slice_get workers k ≡ Some worker → (hand : HandView S L) × (slice_get hands k ≡ Some hand) × (worker.hand ≡ Some hand))

-- ---- what is told
-- how a run stops by the fault of a hand
abbrev pub stop_of_fault : HandFault → Stop
stop_of_fault (fault.Read shard) = stop.Read shard
stop_of_fault fault.Memory = stop.Memory
stop_of_fault (fault.Limit of) = stop.Limit of
stop_of_fault fault.Worn = stop.Worn

-- the conductor ended so, these workers met what they met, and this is told: it comes last after none of these, and is one of them; the conductor's
-- where that has the same place in the order
pub record IsLeastOf {S L : Type 0} (ended : RunResult) (workers : List (WorkerView S L)) (answer : RunResult) : Type 0 where
  pub least : rank answer ≤ rank ended
  pub tie : rank answer ≡ rank ended → answer ≡ ended
  pub each : All (λ (worker : WorkerView S L). IfSome worker.met (λ (met : HandFault). rank answer ≤ stop_rank (stop_of_fault met))) workers
  pub from : (answer ≡ ended) ⊎ Has (λ (worker : WorkerView S L). (met : HandFault) × (worker.met ≡ Some met) × (answer ≡ Err (stop_of_fault met))) workers
