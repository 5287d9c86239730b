-- How many rounds there can be: each round but the last brings some lane further, whatever others feed.
use Rattle.std.specs.Prelude.{◌≡◌, ◌≢◌, ◌⊎◌, ◌<◌, ◌≤◌, ◌+◌, ◌*◌, ℕ, zero, suc, min, Option, None, Some, length, true}
use Rattle.eql_values.specs.declared.order.Mark.{Mark}
use Rattle.eql_values.specs.declared.order.Mark.TheVariants.{End}
use Rattle.eql_laws.specs.Counting.{greatest_bytes, greatest_lines}
use Rattle.eql_lane.specs.Lanes.{Setting, LaneState, low, ready}
use Rattle.eql_conductor.specs.Benches.{Known, ComesByFeeds, LeavesLane}

-- ---- how far a lane is
-- how many events it holds
abbrev pub held_count : LaneState → ℕ
held_count x = length x.cut.items

-- how many bytes were taken, and twice how many of them were read as lines
abbrev pub work_done : LaneState → ℕ
work_done x = x.taken + 2 * min x.cut.offset x.taken

-- the lane went on by at least so many steps: a byte that is taken is one, a byte that is read is two, and an event that is handed out is one, but
-- an event that comes to be held takes one back
abbrev pub Gains : ℕ → (old new : LaneState) → Type 0
Gains n old new = work_done old + held_count new + n ≤ work_done new + held_count old

-- the lane holds no more events than lines were read, no more bytes were read than taken, and it has no more lines and bytes than a shard may have
pub record IsSized (x : LaneState) : Type 0 where
  pub few : held_count x ≤ x.cut.counts.lines
  pub read : x.cut.offset ≤ x.taken
  pub lines : x.cut.counts.lines ≤ greatest_lines
  pub bytes : x.taken ≤ greatest_bytes

-- so many held events are ready that no feed reads anything
abbrev pub IsHolding : Setting → LaneState → Type 0
IsHolding set x = 65536 ≤ ready set x

-- ---- what a lane goes through in a round
-- it was fed: it went a step, or is closed, or is left as it is until it hands out
pub record WasFed (set : Setting) (old new : LaneState) : Type 0 where
  pub on : Gains 0 old new
  pub step : Gains 1 old new ⊎ ((new.cut.closed ≡ true) ⊎ IsHolding set new)

-- it was looked at: it had this low, at a state between
pub record HadLow (set : Setting) (mark : Mark) (old new : LaneState) : Type 0 where
  pub state : LaneState
  pub before : ComesByFeeds set old state
  pub low_is : low set state ≡ mark
  pub later : ComesByFeeds set state new

-- it was taken from, up to this mark: where it held so many events below its low, and the mark is that, it went a step
pub record GaveOut (set : Setting) (mark : Mark) (old new : LaneState) : Type 0 where
  pub on : Gains 0 old new
  pub step : IsHolding set old → low set old ≡ mark → Gains 1 old new

-- ---- what the lanes of a bench go through
-- each state that the lane may have now comes so from one that it might have, and it might have one
pub record LaneWasFed (s : ℕ) (old new : Known) : Type 0 where
  pub some : (x : LaneState) × old.lane s x
  pub each : (y : LaneState) → new.lane s y → (x : LaneState) × old.lane s x × WasFed (old.set s) x y

pub record LaneHadLow (s : ℕ) (mark : Mark) (old new : Known) : Type 0 where
  pub lane : s < old.lanes
  pub some : (x : LaneState) × (y : LaneState) × old.lane s x × HadLow (old.set s) mark x y
  pub each : (y : LaneState) → new.lane s y → (x : LaneState) × old.lane s x × HadLow (old.set s) mark x y

pub record LaneGaveOut (s : ℕ) (mark : Mark) (old new : Known) : Type 0 where
  pub each : (y : LaneState) → new.lane s y → (x : LaneState) × old.lane s x × GaveOut (old.set s) mark x y

-- the lanes below n were fed
pub record FeedsTo (n : ℕ) (old new : Known) : Type 0 where
  pub each : (s : ℕ) → s < old.lanes → s < n → LaneWasFed s old new

-- all were
pub record FeedsAll (old new : Known) : Type 0 where
  pub each : (s : ℕ) → s < old.lanes → LaneWasFed s old new

-- the mark is the end, or a lane had it as its low
abbrev pub IsSomeLow : Mark → Known → Known → Type 0
IsSomeLow mark old new = (mark ≡ End) ⊎ ((s : ℕ) × LaneHadLow s mark old new)

-- one lane was taken from, and the others were left to others
pub record OneGaveOut (s : ℕ) (mark : Mark) (old new : Known) : Type 0 where
  pub lane : LaneGaveOut s mark old new
  pub left : (k : ℕ) → k < old.lanes → k ≢ s → LeavesLane (old.set k) (old.lane k) (new.lane k)

-- the lanes below n were taken from, and the others were left to others
pub record GaveOutTo (n : ℕ) (mark : Mark) (old new : Known) : Type 0 where
  pub done : (s : ℕ) → s < old.lanes → s < n → LaneGaveOut s mark old new
  pub left : (s : ℕ) → s < old.lanes → n ≤ s → LeavesLane (old.set s) (old.lane s) (new.lane s)

-- all were taken from
pub record AllGaveOut (mark : Mark) (old new : Known) : Type 0 where
  pub each : (s : ℕ) → s < old.lanes → LaneGaveOut s mark old new

-- ---- rounds
-- the sum of so many of these numbers, from one on
abbrev pub sum_from : (ℕ → ℕ) → (s : ℕ) → (count : ℕ) → ℕ
sum_from steps s zero = 0
sum_from steps s (suc count) = steps s + sum_from steps (s + 1) count

-- the lanes went on by n steps in all: each by its own number of them, whatever state it may have now
pub record Spends (n : ℕ) (old new : Known) : Type 0 where
  pub steps : ℕ → ℕ
  pub total : sum_from steps 0 old.lanes ≡ n
  pub each : (s : ℕ) → s < old.lanes → (y : LaneState) → new.lane s y → (x : LaneState) × old.lane s x × Gains (steps s) x y

-- each lane may have some state
pub record HaveStates (b : Known) : Type 0 where
  pub each : (s : ℕ) → s < b.lanes → (x : LaneState) × b.lane s x

-- the mark after a round, where the last one was this
abbrev pub mark_after : Mark → Option Mark → Mark
mark_after last None = last
mark_after last (Some mark) = mark

-- a round after which the mark isn't the end took a step
pub record RoundSpends (last : Mark) (old new : Known) (counted : Option Mark) : Type 0 where
  pub some : HaveStates old
  pub step : mark_after last counted ≢ End → Spends 1 old new

-- ---- a loop of rounds ends
-- each lane is of a size that a shard may have, in each state that it may have
pub record AreSized (b : Known) : Type 0 where
  pub each : (s : ℕ) → s < b.lanes → (x : LaneState) → b.lane s x → IsSized x

-- such a lane goes on by no more steps
abbrev pub lane_steps : ℕ
lane_steps = 3 * greatest_bytes + greatest_lines

-- n rounds were played, none of which was the last
pub record RoundsSpend (n : ℕ) (old new : Known) : Type 0 where
  pub spent : Spends n old new
  pub few : n ≤ 1 + old.lanes * lane_steps
