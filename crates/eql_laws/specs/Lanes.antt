-- What a cut keeps of shards, the law that each lane is as a checkpoint is to say it, and the least of marks.
use Rattle.std.specs.Prelude.{◌≡◌, ◌≤◌, ◌+◌, if◌then◌else◌, ℕ, ℤ, ◌≤ℤ◌, ◌-ℤ◌, false, List, [], ◌∷◌, Option, Some, IfSome, map, length, All, IsTrue}
use Rattle.std.specs.Ordering.{is_le}
use Rattle.eql_digest.specs.Digests.{start, with_bytes}
use Rattle.eql_values.specs.declared.item.Item.{Item}
use Rattle.eql_values.specs.declared.order.Mark.{Mark}
use Rattle.eql_values.specs.declared.order.Mark.TheVariants.{At, End}
use Rattle.eql_values.specs.declared.cut.LaneCut.{LaneCut}
use Rattle.eql_values.specs.Accepted.{Reads, readable}
use Rattle.eql_values.specs.Ascending.{Ascend}
use Rattle.eql_values.specs.Lines.{lines_in}
use Rattle.eql_values.specs.Marks.{mark_cmp, is_below, is_safe}
use Rattle.eql_values.specs.Reading.{IsTime}
use Rattle.eql_values.specs.Routes.{RoutesStand}
use Rattle.eql_laws.specs.Belows.{IsReading}
use Rattle.eql_laws.specs.Counting.{counts_of, CountsStand, greatest_lines, greatest_bytes, IsShardText, front}
use Rattle.eql_laws.specs.Cuts.{held_back}
use Rattle.eql_laws.specs.Lateness.{best_of}
use Rattle.eql_laws.specs.Places.{ReadTo, lows_from}

-- what a cut keeps of a shard that was read up to a place, at a mark
abbrev pub lane_at : Reads → Option ℤ → ℕ → Mark → ReadTo → LaneCut
lane_at reads slack shard mark r = record {
  offset = length r.first;
  digest = with_bytes start r.first;
  closed = r.closed;
  best = best_of (readable reads shard (lines_in r.first));
  counts = counts_of reads slack shard r.first;
  items = held_back reads slack shard r.first mark;
}

-- what it keeps of each shard, of which the first is this one
abbrev pub lanes_from : Reads → Option ℤ → ℕ → Mark → List ReadTo → List LaneCut
lanes_from reads slack shard mark [] = []
lanes_from reads slack shard mark (r ∷ shards) = lane_at reads slack shard mark r ∷ lanes_from reads slack (shard + 1) mark shards

-- an event that a lane keeps: it has its shard, one of the lane's lines, a time within the bound and routes in order, and isn't below the mark
pub record IsKeptBy (shard lines : ℕ) (mark : Mark) (item : Item) : Type 0 where
  pub shard_is : item.order.shard ≡ shard
  pub line_from : 1 ≤ item.order.line
  pub line_to : item.order.line ≤ lines
  pub in_range : IsTime item.order.ts
  pub routes_stand : RoutesStand item.routes
  pub not_below : is_below mark item ≡ false

-- a lane as a checkpoint is to have it, at a mark of this time: an open one has a greatest timestamp, which less the slack is at least that time
pub record LaneFits (slack t : ℤ) (shard : ℕ) (lane : LaneCut) : Type 0 where
  pub best_in_range : IfSome lane.best IsTime
  pub open_best : lane.closed ≡ false → (best : ℤ) × (lane.best ≡ Some best) × (t ≤ℤ (best -ℤ slack))
  pub items : All (IsKeptBy shard lane.counts.lines (At t)) lane.items
  pub ascending : Ascend lane.items
  pub no_more_items : length lane.items ≤ lane.counts.accepted
  pub counts_stand : CountsStand lane.counts
  pub lines_to : lane.counts.lines ≤ greatest_lines
  pub offset_to : lane.offset ≤ greatest_bytes

-- each lane is such, of which the first is this shard's
abbrev pub LanesFit : (slack t : ℤ) (shard : ℕ) → List LaneCut → Type 0
LanesFit slack t shard [] = Unit {0}
LanesFit slack t shard (lane ∷ lanes) = LaneFits slack t shard lane × LanesFit slack t (shard + 1) lanes

-- where what was read of shards is no more than shards may have, what is kept of them at a safe time is as a checkpoint is to have it
abbrev pub LanesOfFit : Type 0
LanesOfFit = (reads : Reads) (slack t : ℤ) (shards : List ReadTo) → IsReading reads → All IsShardText (map front shards)
    → IsTrue (is_safe (At t) (lows_from reads (Some slack) 0 shards))
    → LanesFit slack t 0 (lanes_from reads (Some slack) 0 (At t) shards)

-- the least of marks, which is the end where there is none
abbrev pub least_of : List Mark → Mark
least_of [] = End
least_of (mark ∷ marks) = if is_le (mark_cmp mark (least_of marks)) then mark else least_of marks
