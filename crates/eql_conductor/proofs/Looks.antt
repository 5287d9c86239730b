-- What is known once a lane was fed or looked at.
use Rattle.std.proofs.Common.{◌≡◌, inl, inr, ◌+◌, ◌<◌, ℕ, refl, sym, arith, subst}
use Rattle.std.specs.Ordering.{is_le}
use Rattle.eql_values.specs.declared.order.Mark.{Mark}
use Rattle.eql_values.specs.Marks.{mark_cmp}
use Rattle.eql_laws.specs.Lateness.{IsAtMost}
use Rattle.eql_laws.proofs.MarkLemmas.{at_most_self, at_most_trans}
use Rattle.eql_lane.specs.declared.ops.LaneOp.TheVariants as op
use Rattle.eql_lane.specs.declared.ops.LaneReply.TheVariants as reply
use Rattle.eql_lane.specs.declared.ops.ShardLimit.TheVariants as limit
use Rattle.eql_lane.specs.Lanes.{Setting, LaneState, low, lesser}
use Rattle.eql_conductor.specs.declared.stop.Stop.TheVariants as stop
use Rattle.eql_conductor.specs.Benches.{Known, ComesByFeeds, LanePlays, Rests}
use Rattle.eql_conductor.specs.Going.{LanesGo, StopsBy}
use Rattle.eql_conductor.specs.LaneRounds.{AreSafeTo, IsSafe, IsSafeAt}
use Rattle.eql_conductor.proofs.MarkOrder.{lesser_left, lesser_low}
use Rattle.eql_conductor.proofs.Resting.{same_or, lane_rests, was_lane}
use Rattle.eql_conductor.proofs.Onward.{fed_onward, lane_went, rest_goes, rose_on}

-- ---- a feed that stops the round
pub failed_stops : (s max n : ℕ) (a b : Known) → s < a.lanes → LanePlays s (op.Feed max) (reply.Failed n) a b → StopsBy (stop.Read s) a b
failed_stops s max n a b l plays = (
  l,
  λ y here. let c = plays.called y here in
      let o = fed_onward (a.set s) c.first c.before c.fed in
      (c.first, c.was, rose_on c.first.faults c.before.faults y.faults o.faults c.step.faults),
  record { failed = plays.failed; others = plays.others_failed; worn = plays.worn },
)

pub lines_stops : (s max shard : ℕ) (a b : Known) → s < a.lanes → LanePlays s (op.Feed max) (reply.Limit (limit.Lines shard)) a b
    → StopsBy (stop.Limit (limit.Lines s)) a b
lines_stops s max shard a b l plays = (l, λ y here. (plays.called y here).step.2, lane_went s (op.Feed max) (reply.Limit (limit.Lines shard)) a b plays plays.failed)

pub bytes_stops : (s max shard : ℕ) (a b : Known) → s < a.lanes → LanePlays s (op.Feed max) (reply.Limit (limit.Bytes shard)) a b
    → StopsBy (stop.Limit (limit.Bytes s)) a b
bytes_stops s max shard a b l plays = (l, λ y here. (plays.called y here).step.2, lane_went s (op.Feed max) (reply.Limit (limit.Bytes shard)) a b plays plays.failed)

-- ---- a look
pub look_rests : (s : ℕ) (mark : Mark) (a b : Known) → LanePlays s op.Look (reply.Low mark) a b → Rests a b
look_rests s mark a b plays = record {
  same = plays.same;
  lanes = lane_rests s a b (λ y here.
      let c = plays.called y here in
      (c.first, c.was, subst (λ (z : LaneState). ComesByFeeds (a.set s) c.first z) (sym c.step.1) c.fed)) plays.others;
  parts = plays.parts;
}

pub look_safe : (s : ℕ) (mark : Mark) (a b : Known) → s < a.lanes → LanePlays s op.Look (reply.Low mark) a b → IsSafeAt s mark b
look_safe s mark a b l plays = record {
  low_is = λ y here.
      let c = plays.called y here in
      subst (λ (set : Setting). IsAtMost mark (low set y)) (sym (plays.same.set s l))
      (subst (λ (z : LaneState). IsAtMost mark (low (a.set s) z)) (sym c.step.1)
      (subst (λ (m : Mark). IsAtMost mark m) c.step.0 (at_most_self mark)));
}

-- a mark that is safe stays so
pub safe_goes : (s : ℕ) (mark : Mark) (a b : Known) → s < a.lanes → LanesGo a b → IsSafeAt s mark a → IsSafeAt s mark b
safe_goes s mark a b l goes safe = record {
  low_is = λ y here.
      let c = goes.each s l y here in
      subst (λ (set : Setting). IsAtMost mark (low set y)) (sym (goes.same.set s l))
      (at_most_trans mark (low (a.set s) c.0) (low (a.set s) y) (safe.low_is c.0 c.1) c.2.low_up);
}

pub safe_on : (mark : Mark) (a b : Known) → LanesGo a b → IsSafe mark a → IsSafe mark b
safe_on mark a b goes safe = record {
  each = λ s l. let was = was_lane a b s goes.same l in safe_goes s mark a b was goes (safe.each s was);
}

-- one more lane was looked at
pub look_more : (n : ℕ) (mark seen : Mark) (a b : Known) → Rests a b → AreSafeTo n mark a → IsSafeAt n seen b → AreSafeTo (n + 1) (lesser mark seen) b
look_more n mark seen a b rests safe one = record {
  each = λ s l below. elim (same_or s n) [
    | inl e ↦ record {
      low_is = λ y here.
          let le = subst (λ (j : ℕ). IsSafeAt j seen b) (sym e) one in
          at_most_trans (lesser mark seen) seen (low (b.set s) y) (lesser_low mark seen (is_le (mark_cmp mark seen)) refl) (le.low_is y here);
    }
    | inr apart ↦ record {
      low_is = λ y here.
          let was = was_lane a b s rests.same l in
          let le = safe_goes s mark a b was (rest_goes a b rests.same rests.lanes) (safe.each s was (omega (arith, apart, below))) in
          at_most_trans (lesser mark seen) mark (low (b.set s) y) (lesser_left mark seen (is_le (mark_cmp mark seen)) refl) (le.low_is y here);
    }
  ];
}

pub safe_none : (mark : Mark) (b : Known) → AreSafeTo 0 mark b
safe_none mark b = record { each = λ s l below. absurd (omega (arith, below)) }

pub safe_all : (n : ℕ) (mark : Mark) (b : Known) → n ≡ b.lanes → AreSafeTo n mark b → IsSafe mark b
safe_all n mark b e safe = record { each = λ s l. safe.each s l (subst (λ (m : ℕ). s < m) (sym e) l) }
