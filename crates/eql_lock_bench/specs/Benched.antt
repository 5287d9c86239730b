-- How the hand of a bench goes on from what it was.
use Rattle.std.specs.Prelude.{◌≡◌, ℕ, List, Option, Some, length, slice_get}
use Rattle.eql_values.specs.Accepted.{Reads}
use Rattle.eql_outside.specs.Plans.{FaultPlan}
use Rattle.eql_lane.specs.Views.{LaneView, IsTextOf}
use Rattle.eql_turn_lock.specs.declared.view.View.{View}
use Rattle.eql_hub.specs.Hands.{HandView, HubView, IsFirst, IsHandOf, Knows, LaneKnown}
use Rattle.eql_hub.specs.Later.{IsLater}

-- each lane, as the hub was made of it, is of its text, where one is told
pub record AreOfTexts {S L : Type 0} (left : S → Option (List ℕ)) (text : ℕ → Option (List ℕ)) (views : List (LaneKnown S L)) : Type 0 where
  pub each : (s : ℕ) (view : LaneKnown S L) (lane : LaneView S L) → slice_get views s ≡ Some view → view.opening ≡ Some lane → IsTextOf left (text s) lane

-- each pass goes on from what it knew, and none is missing
pub record AllGoOn {T O R : Type 0} (old new : List (View T O R)) : Type 0 where
  pub count : length new ≡ length old
  pub each : (k : ℕ) (v w : View T O R) → slice_get old k ≡ Some v → slice_get new k ≡ Some w → IsLater v w

-- what is known of the hand of a bench, by the hub, by the hand as the bench took it, and by the texts of the lanes:
-- it is the first hand of the hub, has a pass of each lock, knows its history, and goes on from what it was
pub record IsBenchHand {S L : Type 0} (left lent_as : S → Option (List ℕ)) (fault_plan : S → Option FaultPlan) (read_of : L → Reads)
    (text : ℕ → Option (List ℕ)) (hub : HubView) (taken hand : HandView S L) : Type 0 where
  pub own : IsHandOf hub hand
  pub first : IsFirst hand
  pub knows : Knows left lent_as fault_plan read_of hand
  pub texts : AreOfTexts left text hand.lanes.views
  pub lanes : AllGoOn taken.lanes.views hand.lanes.views
  pub parts : AllGoOn taken.parts.views hand.parts.views
  pub lane_count : length hand.lanes.views ≡ length hub.lanes
  pub part_count : length hand.parts.views ≡ length hub.parts
