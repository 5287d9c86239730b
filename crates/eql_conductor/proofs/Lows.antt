-- The low of a lane only rises as it is fed.
use Rattle.std.proofs.Common.{◌≡◌, ◌+◌, ℕ, ℤ, Bool, true, false, List, Option, sym, ap, subst}
use Rattle.eql_values.specs.declared.item.Item.{Item}
use Rattle.eql_values.specs.declared.cut.LaneCut.{LaneCut}
use Rattle.eql_values.specs.Accepted.{readable}
use Rattle.eql_values.specs.Lines.{lines_of, numbered_lines}
use Rattle.eql_values.specs.Marks.{low_of}
use Rattle.eql_laws.specs.Lateness.{IsAtMost}
use Rattle.eql_laws.proofs.MarkLemmas.{at_most_end, at_most_self}
use Rattle.eql_laws.proofs.Kept.{low_rises}
use Rattle.eql_lane.specs.declared.ops.LaneReply.{LaneReply}
use Rattle.eql_lane.specs.declared.ops.LaneReply.TheVariants as reply
use Rattle.eql_lane.specs.declared.ops.ShardLimit.TheVariants as limit
use Rattle.eql_lane.specs.Lanes.{Setting, LaneState, IsFeedStep, ReadsOn, low}

pub low_same : (set : Setting) (x y : LaneState) → y ≡ x → IsAtMost (low set x) (low set y)
low_same set x y e = subst (λ (z : LaneState). IsAtMost (low set x) (low set z)) (sym e) (at_most_self (low set x))

closed_low : (set : Setting) (x y : LaneState) → y.cut.closed ≡ true → IsAtMost (low set x) (low set y)
closed_low set x y e = subst (λ (c : Bool). IsAtMost (low set x) (low_of c set.slack y.cut.best)) (sym e) (at_most_end (low set x))

reads_low : (set : Setting) (x : LaneState) (n : ℕ) (y : LaneState) → x.cut.closed ≡ false → ReadsOn set x n y → IsAtMost (low set x) (low set y)
reads_low set x n y was_open r =
    let fresh : List Item = readable set.reads set.shard (numbered_lines (1 + x.cut.counts.lines) x.cut.offset (lines_of r.more)) in
    subst (λ (c : Bool). IsAtMost (low_of c set.slack x.cut.best) (low set y)) (sym was_open)
    (subst (λ (best : Option ℤ). IsAtMost (low_of false set.slack x.cut.best) (low_of y.cut.closed set.slack best)) (sym (ap (λ (cut : LaneCut). cut.best) r.cut))
    (low_rises y.cut.closed set.slack x.cut.best fresh))

pub feed_low : (set : Setting) (x : LaneState) (max : ℕ) (answer : LaneReply) (y : LaneState) → IsFeedStep set x max answer y → IsAtMost (low set x) (low set y)
feed_low set x max (reply.Fed n) y step = reads_low set x n y step.feeds.was_open step.feeds.reads
feed_low set x max (reply.Held k) y step = low_same set x y step.2
feed_low set x max reply.Closed y step = closed_low set x y step.closed
feed_low set x max (reply.Failed n) y step = reads_low set x n y step.feeds.was_open step.feeds.reads
feed_low set x max (reply.Limit (limit.Lines shard)) y step = reads_low set x step.1.n y step.1.feeds.was_open step.1.feeds.reads
feed_low set x max (reply.Limit (limit.Bytes shard)) y step = reads_low set x step.1.n y step.1.feeds.was_open step.1.feeds.reads
feed_low set x max (reply.Memory n) y step = reads_low set x n y step.feeds.was_open step.feeds.reads
feed_low set x max (reply.Taken items) y step = absurd step
feed_low set x max (reply.Low mark) y step = absurd step
feed_low set x max (reply.Cut cut) y step = absurd step
