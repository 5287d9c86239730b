-- How many events the lanes handed out, by what is known of their states.
use Rattle.std.specs.Prelude.{◌≢◌, ◌<◌, ◌≤◌, ◌+◌, ℕ, zero, suc, List, [], length, get_or}
use Rattle.eql_values.specs.declared.item.Item.{Item}
use Rattle.eql_lane.specs.Lanes.{LaneState}
use Rattle.eql_conductor.specs.Benches.{Known}

-- from the one state to the other a lane may have handed out so many events: with those that it holds they are at most those that it held and
-- the bytes that were read
pub record HandsBy (n : ℕ) (x y : LaneState) : Type 0 where
  pub most : n + length y.cut.items + x.cut.offset ≤ length x.cut.items + y.cut.offset

-- the sum of the first so many
abbrev pub total_to : ℕ → (ℕ → ℕ) → ℕ
total_to zero count = 0
total_to (suc n) count = total_to n count + count n

-- each lane may have handed out so many
pub record LanesHand (counts : ℕ → ℕ) (old new : Known) : Type 0 where
  pub each : (s : ℕ) → s < old.lanes → (y : LaneState) → new.lane s y → (x : LaneState) × old.lane s x × HandsBy (counts s) x y

-- this lane may have handed out so many, and no other any
pub record LaneHands (s n : ℕ) (old new : Known) : Type 0 where
  pub called : (y : LaneState) → new.lane s y → (x : LaneState) × old.lane s x × HandsBy n x y
  pub others : (k : ℕ) → k < old.lanes → k ≢ s → (y : LaneState) → new.lane k y → (x : LaneState) × old.lane k x × HandsBy 0 x y

-- how many events are in the list of each lane
abbrev pub sizes : List (List Item) → ℕ → ℕ
sizes lists s = length (get_or lists s [])

-- all lanes together may have handed out so many
pub record AllHandOut (n : ℕ) (old new : Known) : Type 0 where
  pub counts : ℕ → ℕ
  pub total : n ≤ total_to old.lanes counts
  pub each : LanesHand counts old new
