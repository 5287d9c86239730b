-- How a bench goes on over several calls of the conductor, and why it stops.
use Rattle.std.specs.Prelude.{◌≡◌, ◌≢◌, ◌<◌, ◌≤◌, ℕ, Result}
use Rattle.eql_outside.specs.Outside.{Rose}
use Rattle.eql_laws.specs.Counting.{greatest_bytes}
use Rattle.eql_laws.specs.Lateness.{IsAtMost}
use Rattle.eql_lane.specs.declared.ops.ShardLimit.TheVariants as limit
use Rattle.eql_lane.specs.Lanes.{Setting, LaneState, IsOutOfLines, low}
use Rattle.eql_conductor.specs.declared.bench.NotPlayed.{NotPlayed}
use Rattle.eql_conductor.specs.declared.bench.NotPlayed.TheVariants as not_played
use Rattle.eql_conductor.specs.declared.stop.Stop.{Stop}
use Rattle.eql_conductor.specs.declared.stop.Stop.TheVariants as stop
use Rattle.eql_conductor.specs.Benches.{Known, StaysSame, NoFeedFailed}
use Rattle.eql_conductor.specs.Bounds.{Gains, IsSized}

-- neither the count of faults, the number of bytes that were taken, nor the low falls, it isn't taken back, and it stays of its size
pub record GoesOnward (set : Setting) (old new : LaneState) : Type 0 where
  pub faults : old.faults ≤ new.faults
  pub taken : old.taken ≤ new.taken
  pub low_up : IsAtMost (low set old) (low set new)
  pub gains : Gains 0 old new
  pub sized : IsSized old → IsSized new

-- each state that a lane may have now goes on from one that it might have
pub record LanesGo (old new : Known) : Type 0 where
  pub same : StaysSame old new
  pub each : (s : ℕ) → s < old.lanes → (y : LaneState) → new.lane s y → (x : LaneState) × old.lane s x × GoesOnward (old.set s) x y

-- no feed of the caller failed, and no lock was worn at its calls
pub record Went (old new : Known) : Type 0 where
  pub failed : NoFeedFailed old new
  pub worn : new.worn ≡ old.worn

-- each state that the lane may have now has a count of faults that rose from one that it might have
abbrev pub FaultRose : ℕ → Known → Known → Type 0
FaultRose s old new = (y : LaneState) → new.lane s y → (x : LaneState) × old.lane s x × Rose x.faults y.faults

-- one of the caller's feeds of this lane failed, none of another lane, and no lock was worn
pub record FailsAt (s : ℕ) (old new : Known) : Type 0 where
  pub failed : old.failed s < new.failed s
  pub others : (k : ℕ) → k ≢ s → new.failed k ≡ old.failed k
  pub worn : new.worn ≡ old.worn

-- why the conductor stops at a call of the bench: one of its own feeds failed, and the lane's count rose; a lane is at a limit in each
-- state that it may have; a lock was worn. In every other case, and of every other count, nothing rose
abbrev pub StopsBy : Stop → Known → Known → Type 0
StopsBy (stop.Read s) old new = (s < old.lanes) × FaultRose s old new × FailsAt s old new
StopsBy (stop.Limit (limit.Lines s)) old new = (s < old.lanes) × ((y : LaneState) → new.lane s y → IsOutOfLines (old.set s) y) × Went old new
StopsBy (stop.Limit (limit.Bytes s)) old new = (s < old.lanes) × ((y : LaneState) → new.lane s y → y.taken ≡ greatest_bytes) × Went old new
StopsBy stop.Worn old new = (old.worn < new.worn) × NoFeedFailed old new
StopsBy stop.Generation old new = ⊥
StopsBy stop.Write old new = ⊥
StopsBy stop.Disk old new = ⊥
StopsBy stop.Memory old new = Went old new

-- how a run ends: it came to its end, or it stopped
abbrev pub RunResult : Type 0
RunResult = Result (Unit {0}) Stop

-- why it stops where an operation wasn't played
abbrev pub stop_by : NotPlayed → Stop
stop_by (not_played.Worn word) = stop.Worn
stop_by not_played.Memory = stop.Memory
