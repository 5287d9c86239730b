-- What is kept of shards is as it is said to be.
use Rattle.std.proofs.Common.{◌≡◌, ◌+◌, ℕ, ℤ, ◌≤ℤ◌, ◌-ℤ◌, Bool, false, List, [], ◌∷◌, map, Option, Some, None, refl, subst}
use Rattle.std.specs.Prelude.{All, IfSome, IsTrue}
use Rattle.std.proofs.lemmas.List.Elements.{All-head, All-tail, All-weaker}
use Rattle.eql_values.specs.declared.order.Mark.TheVariants.{At}
use Rattle.eql_values.specs.Accepted.{Reads, readable}
use Rattle.eql_values.specs.Lines.{lines_in}
use Rattle.eql_values.specs.Marks.{low_of, is_safe}
use Rattle.eql_values.specs.Reading.{IsTime}
use Rattle.eql_laws.specs.Belows.{IsReading}
use Rattle.eql_laws.specs.Counting.{counts_of, IsShardText, front}
use Rattle.eql_laws.specs.Cuts.{IsHeldBack}
use Rattle.eql_laws.specs.Lanes.{lane_at, lanes_from, IsKeptBy, LaneFits, LanesFit, LanesOfFit}
use Rattle.eql_laws.specs.Lateness.{IsAtMost, best_of}
use Rattle.eql_laws.specs.Places.{ReadTo, low_at, lows_from}
use Rattle.eql_laws.proofs.BelowLemmas.{accepted_of_text}
use Rattle.eql_laws.proofs.Counted.{counts_of_stand}
use Rattle.eql_laws.proofs.CutLemmas.{held_back_fits}
use Rattle.eql_laws.proofs.Facts.{both_true}
use Rattle.eql_laws.proofs.MarkLemmas.{times_le}

-- an open shard whose low is at least a time
open_above : (slack t : ℤ) (best : Option ℤ) → IsAtMost (At t) (low_of false (Some slack) best) → (b : ℤ) × (best ≡ Some b) × (t ≤ℤ (b -ℤ slack))
open_above slack t None h = cc
open_above slack t (Some b) h = (b, refl, times_le t (b -ℤ slack) h)

-- the greatest timestamp of what was read
abbrev best_at : Reads → ℕ → ReadTo → Option ℤ
best_at reads shard r = best_of (readable reads shard (lines_in r.first))

best_time : (reads : Reads) (shard : ℕ) (r : ReadTo) → IsReading reads → IfSome (best_at reads shard r) IsTime
best_time reads shard r reading = (accepted_of_text reads None shard r.first reading).best_in_range

lane_fits : (reads : Reads) (slack t : ℤ) (shard : ℕ) (r : ReadTo) → IsReading reads → IsShardText r.first → IsAtMost (At t) (low_at reads (Some slack) shard r)
    → LaneFits slack t shard (lane_at reads (Some slack) shard (At t) r)
lane_fits reads slack t shard r reading text low =
    let held = held_back_fits reads (Some slack) shard r.first (At t) reading in
    record {
      best_in_range = best_time reads shard r reading;
      open_best = λ e. open_above slack t (best_at reads shard r) (subst (λ (c : Bool). IsAtMost (At t) (low_of c (Some slack) (best_at reads shard r))) e low);
      items = All-weaker (IsHeldBack shard r.first (At t)) (IsKeptBy shard (counts_of reads (Some slack) shard r.first).lines (At t))
          (λ item h. record {
            shard_is = h.accepted.shard_is;
            line_from = h.accepted.line_from;
            line_to = h.accepted.line_to;
            in_range = h.accepted.in_range;
            routes_stand = h.accepted.routes_stand;
            not_below = h.not_below;
          }) _ held.all;
      ascending = held.ascending;
      no_more_items = held.fewer;
      counts_stand = counts_of_stand reads (Some slack) shard r.first;
      lines_to = text.lines;
      offset_to = text.bytes;
    }

lanes_fit : (reads : Reads) (slack t : ℤ) (shard : ℕ) (shards : List ReadTo) → IsReading reads → All IsShardText (map front shards)
    → IsTrue (is_safe (At t) (lows_from reads (Some slack) shard shards))
    → LanesFit slack t shard (lanes_from reads (Some slack) shard (At t) shards)
lanes_fit reads slack t shard [] reading texts safe = tt
lanes_fit reads slack t shard (r ∷ shards) reading texts safe =
    let both = both_true _ _ safe in (
      lane_fits reads slack t shard r reading (All-head IsShardText r.first (map front shards) texts) both.0,
      lanes_fit reads slack t (shard + 1) shards reading (All-tail IsShardText r.first (map front shards) texts) both.1,
    )

pub lanes_of_fit : LanesOfFit
lanes_of_fit reads slack t shards reading texts safe = lanes_fit reads slack t 0 shards reading texts safe
