-- What bounds a run, whatever others feed: how many rounds it has, and how many notes.
use Rattle.std.specs.Prelude.{◌<◌, ◌≤◌, ◌+◌, ◌*◌, ℕ}
use Rattle.eql_lane.specs.Lanes.{LaneState}
use Rattle.eql_conductor.specs.Benches.{Known, ComesByFeeds}
use Rattle.eql_conductor.specs.Bounds.{AreSized, held_count}
use Rattle.eql_conductor.specs.Handed.{total_to}
use Rattle.eql_conductor.specs.RoundNotes.{LanesGrowInRounds, PartsGrowInRounds, turns_in}

-- the lanes began with the one states, and only others fed them until the run; and they may have the other states after it
pub record LaneStates (began now : ℕ → LaneState) (old new : Known) : Type 0 where
  pub from : (s : ℕ) → s < old.lanes → (x : LaneState) → old.lane s x → ComesByFeeds (old.set s) (began s) x
  pub to : (s : ℕ) → s < old.lanes → new.lane s (now s)

-- how many bytes so many lanes took, and how many events they held
abbrev pub bytes_in : ℕ → (ℕ → LaneState) → ℕ
bytes_in lanes state = total_to lanes (λ s. (state s).taken)

abbrev pub events_in : ℕ → (ℕ → LaneState) → ℕ
events_in lanes state = total_to lanes (λ s. held_count (state s))

-- by b bytes and c events: so many rounds are at most this, and the notes of each part that tell of events played rose by at most b + c
pub record IsBoundedBy (rounds : ℕ) (old new : Known) (b c : ℕ) : Type 0 where
  pub rounds_to : rounds ≤ 4 * b + 4 * c + 4 * old.lanes + 8
  pub turns_to : (p : ℕ) → p < old.parts → turns_in (new.part_notes p) ≤ turns_in (old.part_notes p) + (b + c)

-- a run of so many rounds is bounded by the bytes that the lanes took in all, in any states that they may have then, and the events that they began
-- with. In one round the notes of each lane grow by at most four, and those of each part by at most four that tell of no events played. No lane has
-- more bytes than a shard may have
pub record RunIsBounded (rounds : ℕ) (old new : Known) : Type 0 where
  pub bound : (began now : ℕ → LaneState) → LaneStates began now old new → IsBoundedBy rounds old new (bytes_in old.lanes now) (events_in old.lanes began)
  pub lanes : LanesGrowInRounds rounds old new
  pub parts : PartsGrowInRounds rounds old new
  pub sized : AreSized new
