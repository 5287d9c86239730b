-- How lanes go on, and why the conductor stops.
use Rattle.std.proofs.Common.{◌≡◌, inl, inr, ◌<◌, ◌≤◌, ℕ, zero, suc, List, refl, sym, ◌∙◌, arith, subst}
use Rattle.eql_outside.specs.Outside.{Rose}
use Rattle.eql_values.specs.declared.order.Mark.{Mark}
use Rattle.eql_values.specs.declared.item.Item.{Item}
use Rattle.eql_values.specs.declared.cut.LaneCut.{LaneCut}
use Rattle.eql_values.specs.Marks.{low_of}
use Rattle.eql_laws.specs.Lateness.{IsAtMost}
use Rattle.eql_laws.proofs.MarkLemmas.{at_most_self, at_most_trans}
use Rattle.eql_lane.specs.declared.ops.LaneOp.{LaneOp}
use Rattle.eql_lane.specs.declared.ops.LaneOp.TheVariants as op
use Rattle.eql_lane.specs.declared.ops.LaneReply.{LaneReply}
use Rattle.eql_lane.specs.declared.ops.LaneReply.TheVariants as reply
use Rattle.eql_lane.specs.declared.ops.ShardLimit.TheVariants as limit
use Rattle.eql_lane.specs.Lanes.{Setting, LaneState, IsFeedStep, IsTakeStep, IsLookStep, IsSnapStep, IsLaneStep, ReadsOn, Takes, IsOutOfLines, low, lesser}
use Rattle.eql_conductor.specs.declared.bench.NotPlayed.{NotPlayed}
use Rattle.eql_conductor.specs.declared.bench.NotPlayed.TheVariants as not_played
use Rattle.eql_conductor.specs.declared.stop.Stop.{Stop}
use Rattle.eql_conductor.specs.declared.stop.Stop.TheVariants as stop
use Rattle.eql_conductor.specs.Benches.{Known, StaysSame, FeedsTimes, ComesByFeeds, LanesRest, LanePlays, WasNotPlayed}
use Rattle.eql_conductor.specs.Going.{GoesOnward, LanesGo, Went, FaultRose, StopsBy, stop_by}
use Rattle.eql_conductor.proofs.BoundsSteps.{gains_on, gains_self, reads_gain, reads_sized, take_gains, take_sized}
use Rattle.eql_conductor.proofs.Lows.{feed_low}
use Rattle.eql_conductor.proofs.Resting.{same_or, same_self, same_on, was_lane, is_lane}

-- ---- a lane
pub onward_self : (set : Setting) (x : LaneState) → GoesOnward set x x
onward_self set x = record { faults = omega arith; taken = omega arith; low_up = at_most_self (low set x); gains = gains_self x; sized = λ h. h }

onward_same : (set : Setting) (x y : LaneState) → y ≡ x → GoesOnward set x y
onward_same set x y e = subst (GoesOnward set x) (sym e) (onward_self set x)

pub onward_on : (set : Setting) (x y z : LaneState) → GoesOnward set x y → GoesOnward set y z → GoesOnward set x z
onward_on set x y z h k = record {
  faults = let a = h.faults in let b = k.faults in omega (arith, a, b);
  taken = let a = h.taken in let b = k.taken in omega (arith, a, b);
  low_up = at_most_trans (low set x) (low set y) (low set z) h.low_up k.low_up;
  gains = gains_on 0 0 x y z h.gains k.gains;
  sized = λ was. k.sized (h.sized was);
}

reads_onward : (set : Setting) (x : LaneState) (n : ℕ) (y : LaneState) → IsAtMost (low set x) (low set y) → ReadsOn set x n y → GoesOnward set x y
reads_onward set x n y up r = record { faults = r.counts; taken = r.taken; low_up = up; gains = reads_gain set x n y r; sized = reads_sized set x n y r }

feed_onward : (set : Setting) (x : LaneState) (max : ℕ) (answer : LaneReply) (y : LaneState) → IsFeedStep set x max answer y → GoesOnward set x y
feed_onward set x max (reply.Fed n) y step = reads_onward set x n y (feed_low set x max (reply.Fed n) y step) step.feeds.reads
feed_onward set x max (reply.Held k) y step = onward_same set x y step.2
feed_onward set x max reply.Closed y step = reads_onward set x 0 y (feed_low set x max reply.Closed y step) step.reads
feed_onward set x max (reply.Failed n) y step = reads_onward set x n y (feed_low set x max (reply.Failed n) y step) step.feeds.reads
feed_onward set x max (reply.Limit (limit.Lines shard)) y step = reads_onward set x step.1.n y (feed_low set x max (reply.Limit (limit.Lines shard)) y step) step.1.feeds.reads
feed_onward set x max (reply.Limit (limit.Bytes shard)) y step = reads_onward set x step.1.n y (feed_low set x max (reply.Limit (limit.Bytes shard)) y step) step.1.feeds.reads
feed_onward set x max (reply.Memory n) y step = reads_onward set x n y (feed_low set x max (reply.Memory n) y step) step.feeds.reads
feed_onward set x max (reply.Taken items) y step = absurd step
feed_onward set x max (reply.Low mark) y step = absurd step
feed_onward set x max (reply.Cut cut) y step = absurd step

take_on : (set : Setting) (x : LaneState) (mark : Mark) (items : List Item) (y : LaneState) → Takes x mark items y → GoesOnward set x y
take_on set x mark items y step = record {
  faults = let e = step.faults in omega (arith, e);
  taken = let e = step.taken in omega (arith, e);
  low_up = subst (λ (cut : LaneCut). IsAtMost (low set x) (low_of cut.closed set.slack cut.best)) (sym step.cut) (at_most_self (low set x));
  gains = take_gains x mark items y step 0 (omega arith);
  sized = take_sized x mark items y step;
}

take_onward : (set : Setting) (x : LaneState) (mark : Mark) (answer : LaneReply) (y : LaneState) → IsTakeStep set x mark answer y → GoesOnward set x y
take_onward set x mark (reply.Taken items) y step = take_on set x (lesser mark (low set x)) items y step
take_onward set x mark (reply.Memory n) y step = onward_same set x y step.1
take_onward set x mark (reply.Fed n) y step = absurd step
take_onward set x mark (reply.Held k) y step = absurd step
take_onward set x mark reply.Closed y step = absurd step
take_onward set x mark (reply.Failed n) y step = absurd step
take_onward set x mark (reply.Limit of) y step = absurd step
take_onward set x mark (reply.Low m) y step = absurd step
take_onward set x mark (reply.Cut cut) y step = absurd step

look_onward : (set : Setting) (x : LaneState) (answer : LaneReply) (y : LaneState) → IsLookStep set x answer y → GoesOnward set x y
look_onward set x (reply.Low mark) y step = onward_same set x y step.1
look_onward set x (reply.Taken items) y step = absurd step
look_onward set x (reply.Memory n) y step = absurd step
look_onward set x (reply.Fed n) y step = absurd step
look_onward set x (reply.Held k) y step = absurd step
look_onward set x reply.Closed y step = absurd step
look_onward set x (reply.Failed n) y step = absurd step
look_onward set x (reply.Limit of) y step = absurd step
look_onward set x (reply.Cut cut) y step = absurd step

snap_onward : (set : Setting) (x : LaneState) (answer : LaneReply) (y : LaneState) → IsSnapStep x answer y → GoesOnward set x y
snap_onward set x (reply.Cut cut) y step = onward_same set x y step.1
snap_onward set x (reply.Memory n) y step = onward_same set x y step.1
snap_onward set x (reply.Low mark) y step = absurd step
snap_onward set x (reply.Taken items) y step = absurd step
snap_onward set x (reply.Fed n) y step = absurd step
snap_onward set x (reply.Held k) y step = absurd step
snap_onward set x reply.Closed y step = absurd step
snap_onward set x (reply.Failed n) y step = absurd step
snap_onward set x (reply.Limit of) y step = absurd step

pub step_onward : (set : Setting) (x : LaneState) (o : LaneOp) (answer : LaneReply) (y : LaneState) → IsLaneStep set x o answer y → GoesOnward set x y
step_onward set x (op.Feed max) answer y step = feed_onward set x max answer y step
step_onward set x (op.Take mark) answer y step = take_onward set x mark answer y step
step_onward set x op.Look answer y step = look_onward set x answer y step
step_onward set x op.Snap answer y step = snap_onward set x answer y step

fed_times_onward : (set : Setting) (n : ℕ) (x y : LaneState) → FeedsTimes set n x y → GoesOnward set x y
fed_times_onward set zero x y h = onward_same set x y h
fed_times_onward set (suc n) x y (mid, max, answer, step, rest) =
    onward_on set x mid y (feed_onward set x max answer mid step) (fed_times_onward set n mid y rest)

pub fed_onward : (set : Setting) (x y : LaneState) → ComesByFeeds set x y → GoesOnward set x y
fed_onward set x y h = fed_times_onward set h.0 x y h.1

-- ---- all lanes
pub lanes_go_self : (b : Known) → LanesGo b b
lanes_go_self b = record { same = same_self b; each = λ s l y here. (y, here, onward_self (b.set s) y) }

pub rest_goes : (a b : Known) → StaysSame a b → LanesRest a b → LanesGo a b
rest_goes a b same h = record {
  same = same;
  each = λ s l y here. let c = h.each s l y here in (c.0, c.1, fed_onward (a.set s) c.0 y c.2);
}

pub lanes_go_on : (a b c : Known) → LanesGo a b → LanesGo b c → LanesGo a c
lanes_go_on a b c h k = record {
  same = same_on a b c h.same k.same;
  each = λ s l y here.
      let m = k.each s (is_lane a b s h.same l) y here in
      let f = h.each s l m.0 m.1 in
      (f.0, f.1, onward_on (a.set s) f.0 m.0 y f.2 (subst (λ (set : Setting). GoesOnward set m.0 y) (h.same.set s l) m.2));
}

pub lane_goes : (s : ℕ) (o : LaneOp) (answer : LaneReply) (a b : Known) → LanePlays s o answer a b → LanesGo a b
lane_goes s o answer a b plays = record {
  same = plays.same;
  each = λ k l. elim (same_or k s) [
    | inl e ↦ subst (λ (j : ℕ). (y : LaneState) → b.lane j y → (x : LaneState) × a.lane j x × GoesOnward (a.set j) x y) (sym e) (λ y here.
        let c = plays.called y here in
        (c.first, c.was, onward_on (a.set s) c.first c.before y (fed_onward (a.set s) c.first c.before c.fed) (step_onward (a.set s) c.before o answer y c.step)))
    | inr apart ↦ λ y here. let c = plays.others k l apart y here in (c.0, c.1, fed_onward (a.set k) c.0 y c.2)
  ];
}

-- ---- why it stops
pub rose_on : (x y z : ℕ) → x ≤ y → Rose y z → Rose x z
rose_on x y z le (inl h) = inl (omega (arith, le, h))
rose_on x y z le (inr h) = inr h

pub went_self : (b : Known) → Went b b
went_self b = record { failed = λ s. refl; worn = refl }

pub went_on : (a b c : Known) → Went a b → Went b c → Went a c
went_on a b c h k = record { failed = λ s. k.failed s ∙ h.failed s; worn = k.worn ∙ h.worn }

-- no feed failed where none failed at the lane that was called
pub lane_went : (s : ℕ) (op : LaneOp) (reply : LaneReply) (a b : Known) → LanePlays s op reply a b → b.failed s ≡ a.failed s → Went a b
lane_went s op reply a b plays none = record {
  failed = λ k. elim (same_or k s) [
    | inl e ↦ subst (λ (j : ℕ). b.failed j ≡ a.failed j) (sym e) none
    | inr apart ↦ plays.others_failed k apart
  ];
  worn = plays.worn;
}

fault_rose_on : (s : ℕ) (a b c : Known) → s < a.lanes → LanesGo a b → FaultRose s b c → FaultRose s a c
fault_rose_on s a b c l go rose y here =
    let m = rose y here in
    let f = go.each s l m.0 m.1 in
    (f.0, f.1, rose_on f.0.faults m.0.faults y.faults f.2.faults m.2)

pub stops_on : (by : Stop) (a b c : Known) → LanesGo a b → Went a b → StopsBy by b c → StopsBy by a c
stops_on (stop.Read s) a b c go went h =
    let l = was_lane a b s go.same h.0 in (
      l,
      fault_rose_on s a b c l go h.1,
      record {
        failed = subst (λ (n : ℕ). n < c.failed s) (went.failed s) h.2.failed;
        others = λ k apart. h.2.others k apart ∙ went.failed k;
        worn = h.2.worn ∙ went.worn;
      },
    )
stops_on (stop.Limit (limit.Lines s)) a b c go went h =
    let l = was_lane a b s go.same h.0 in
    (l, λ y here. subst (λ (set : Setting). IsOutOfLines set y) (go.same.set s l) (h.1 y here), went_on a b c went h.2)
stops_on (stop.Limit (limit.Bytes s)) a b c go went h = (was_lane a b s go.same h.0, h.1, went_on a b c went h.2)
stops_on stop.Worn a b c go went h = (subst (λ (n : ℕ). n < c.worn) went.worn h.0, λ k. h.1 k ∙ went.failed k)
stops_on stop.Generation a b c go went h = absurd h
stops_on stop.Write a b c go went h = absurd h
stops_on stop.Disk a b c go went h = absurd h
stops_on stop.Memory a b c go went h = went_on a b c went h

-- where an operation wasn't played
pub unplayed_stops : (by : NotPlayed) (a b : Known) → WasNotPlayed by a b → StopsBy (stop_by by) a b
unplayed_stops (not_played.Worn word) a b h = (h.worn.1, h.failed)
unplayed_stops not_played.Memory a b h = record { failed = h.failed; worn = h.worn }

pub unplayed_goes : (by : NotPlayed) (a b : Known) → WasNotPlayed by a b → LanesGo a b
unplayed_goes by a b h = rest_goes a b h.rests.same h.rests.lanes
