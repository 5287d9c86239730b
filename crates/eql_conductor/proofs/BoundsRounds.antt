-- What the lanes of a bench go through as they are fed, looked at and taken from.
use Rattle.std.proofs.Common.{◌≡◌, inl, inr, ◌+◌, ◌<◌, ℕ, Bool, true, false, cond, List, sym, arith, subst}
use Rattle.std.specs.Ordering.{is_le}
use Rattle.eql_values.specs.declared.item.Item.{Item}
use Rattle.eql_values.specs.declared.order.Mark.{Mark}
use Rattle.eql_values.specs.Marks.{mark_cmp}
use Rattle.eql_lane.specs.declared.ops.LaneOp.TheVariants as op
use Rattle.eql_lane.specs.declared.ops.LaneReply.{LaneReply}
use Rattle.eql_lane.specs.declared.ops.LaneReply.TheVariants as reply
use Rattle.eql_lane.specs.Lanes.{Setting, LaneState, IsFeedStep, lesser}
use Rattle.eql_conductor.specs.Benches.{Known, StaysSame, ComesByFeeds, LeavesLane, LanesRest, LanePlays, Rests}
use Rattle.eql_conductor.specs.Bounds.{FeedsAll, AllGaveOut, FeedsTo, GaveOut, GaveOutTo, HadLow, IsSomeLow, LaneGaveOut, LaneHadLow, LaneWasFed, OneGaveOut, WasFed}
use Rattle.eql_conductor.proofs.BoundsLanes.{fed_closed, fed_held, fed_lines, gave_out, gave_out_before, gave_out_on, was_fed_before, was_fed_on}
use Rattle.eql_conductor.proofs.Onward.{step_onward}
use Rattle.eql_conductor.proofs.Resting.{fed_on, fed_self, is_lane, same_or}

-- ---- feeds
plays_fed : (s max : ℕ) (answer : LaneReply) (a b : Known) → ((x y : LaneState) → IsFeedStep (a.set s) x max answer y → WasFed (a.set s) x y)
    → LanePlays s (op.Feed max) answer a b → LaneWasFed s a b
plays_fed s max answer a b one plays = record {
  some = let c = plays.called plays.some.0 plays.some.1 in (c.first, c.was);
  each = λ y here. let c = plays.called y here in (c.first, c.was, was_fed_before (a.set s) c.first c.before y c.fed (one c.before y c.step));
}

pub lines_was_fed : (s max n : ℕ) (a b : Known) → LanePlays s (op.Feed max) (reply.Fed n) a b → LaneWasFed s a b
lines_was_fed s max n a b plays = plays_fed s max (reply.Fed n) a b (λ x y step. fed_lines (a.set s) x max n y step) plays

pub held_was_fed : (s max k : ℕ) (a b : Known) → LanePlays s (op.Feed max) (reply.Held k) a b → LaneWasFed s a b
held_was_fed s max k a b plays = plays_fed s max (reply.Held k) a b (λ x y step. fed_held (a.set s) x max k y step) plays

pub closed_was_fed : (s max : ℕ) (a b : Known) → LanePlays s (op.Feed max) reply.Closed a b → LaneWasFed s a b
closed_was_fed s max a b plays =
    plays_fed s max reply.Closed a b (λ x y step. fed_closed (a.set s) x max y (step_onward (a.set s) x (op.Feed max) reply.Closed y step).gains step) plays

pub fed_none : (a : Known) → FeedsTo 0 a a
fed_none a = record { each = λ s l below. absurd (omega (arith, below)) }

-- one more lane was fed
pub fed_more : (n : ℕ) (a b c : Known) → Rests a b → Rests b c → FeedsTo n a b → LaneWasFed n b c → FeedsTo (n + 1) a c
fed_more n a b c before then was one = record {
  each = λ s l below. elim (same_or s n) [
    | inl e ↦ subst (λ (k : ℕ). LaneWasFed k a c) (sym e) (this (subst (λ (k : ℕ). k < a.lanes) e l))
    | inr apart ↦ other s l (was.each s l (omega (arith, apart, below)))
  ];
}
  where
    this : n < a.lanes → LaneWasFed n a c
    this l = record {
      some = let x = before.lanes.each n l one.some.0 one.some.1 in (x.0, x.1);
      each = λ y here.
          let m = one.each y here in
          let x = before.lanes.each n l m.0 m.1 in
          (x.0, x.1, was_fed_before (a.set n) x.0 m.0 y x.2 (subst (λ (set : Setting). WasFed set m.0 y) (before.same.set n l) m.2));
    }

    other : (s : ℕ) → s < a.lanes → LaneWasFed s a b → LaneWasFed s a c
    other s l fed = record {
      some = fed.some;
      each = λ y here.
          let m = then.lanes.each s (is_lane a b s before.same l) y here in
          let x = fed.each m.0 m.1 in
          (x.0, x.1, was_fed_on (a.set s) x.0 m.0 y x.2 (subst (λ (set : Setting). ComesByFeeds set m.0 y) (before.same.set s l) m.2));
    }

pub fed_all : (n : ℕ) (a b : Known) → n ≡ a.lanes → FeedsTo n a b → FeedsAll a b
fed_all n a b e fed = record { each = λ s l. fed.each s l (subst (λ (m : ℕ). s < m) (sym e) l) }

-- ---- looks
pub looked_low : (s : ℕ) (mark : Mark) (a b : Known) → s < a.lanes → LanePlays s op.Look (reply.Low mark) a b → LaneHadLow s mark a b
looked_low s mark a b l plays = record {
  lane = l;
  some = let h = had plays.some.0 plays.some.1 in (h.0, plays.some.0, h.1, h.2);
  each = had;
}
  where
    had : (y : LaneState) → b.lane s y → (x : LaneState) × a.lane s x × HadLow (a.set s) mark x y
    had y here =
        let c = plays.called y here in (
          c.first,
          c.was,
          record {
            state = c.before;
            before = c.fed;
            low_is = sym c.step.0;
            later = subst (λ (z : LaneState). ComesByFeeds (a.set s) c.before z) (sym c.step.1) (fed_self (a.set s) c.before);
          },
        )

-- others feed before it and after it
low_before : (s : ℕ) (mark : Mark) (a b c : Known) → Rests a b → LaneHadLow s mark b c → LaneHadLow s mark a c
low_before s mark a b c rests h = record {
  lane = l;
  some = let m = h.some in let x = first m.0 m.1 m.2 m.3 in (x.0, m.1, x.1, x.2);
  each = λ y here. let m = h.each y here in first m.0 y m.1 m.2;
}
  where
    l : s < a.lanes
    l = subst (λ (n : ℕ). s < n) rests.same.lanes h.lane

    first : (m y : LaneState) → b.lane s m → HadLow (b.set s) mark m y → (x : LaneState) × a.lane s x × HadLow (a.set s) mark x y
    first m y here was =
        let x = rests.lanes.each s l m here in
        let had : HadLow (a.set s) mark m y = subst (λ (set : Setting). HadLow set mark m y) (rests.same.set s l) was in
        (x.0, x.1, record { state = had.state; before = fed_on (a.set s) x.0 m had.state x.2 had.before; low_is = had.low_is; later = had.later })

low_on : (s : ℕ) (mark : Mark) (a b c : Known) → StaysSame a b → LanesRest b c → LaneHadLow s mark a b → LaneHadLow s mark a c
low_on s mark a b c same rests h = record {
  lane = h.lane;
  some = h.some;
  each = λ y here.
      let m = rests.each s (is_lane a b s same h.lane) y here in
      let x = h.each m.0 m.1 in
      let fed : ComesByFeeds (a.set s) m.0 y = subst (λ (set : Setting). ComesByFeeds set m.0 y) (same.set s h.lane) m.2 in
      let had = x.2 in
      (x.0, x.1, record { state = had.state; before = had.before; low_is = had.low_is; later = fed_on (a.set s) had.state m.0 y had.later fed });
}

some_low_on : (mark : Mark) (a b c : Known) → StaysSame a b → LanesRest b c → IsSomeLow mark a b → IsSomeLow mark a c
some_low_on mark a b c same rests (inl e) = inl e
some_low_on mark a b c same rests (inr (s, h)) = inr (s, low_on s mark a b c same rests h)

-- one more lane was looked at: the lesser of both marks is the one or the other
pub low_more : (n : ℕ) (mark seen : Mark) (a b c : Known) → Rests a b → Rests b c → IsSomeLow mark a b → LaneHadLow n seen b c → IsSomeLow (lesser mark seen) a c
low_more n mark seen a b c before then was one = by (is_le (mark_cmp mark seen))
  where
    by : (le : Bool) → IsSomeLow (cond le mark seen) a c
    by true = some_low_on mark a b c before.same then.lanes was
    by false = inr (n, low_before n seen a b c before one)

-- ---- takes
pub one_gave_out : (s : ℕ) (mark : Mark) (items : List Item) (a b : Known) → LanePlays s (op.Take mark) (reply.Taken items) a b → OneGaveOut s mark a b
one_gave_out s mark items a b plays = record {
  lane = record {
    each = λ y here.
        let c = plays.called y here in
        (c.first, c.was, gave_out (a.set s) mark c.first c.before items y y c.fed c.step (fed_self (a.set s) y));
  };
  left = plays.others;
}

pub gave_out_none : (mark : Mark) (a : Known) → GaveOutTo 0 mark a a
gave_out_none mark a = record {
  done = λ s l below. absurd (omega (arith, below));
  left = λ s l above y here. (y, here, fed_self (a.set s) y);
}

left_on : (s : ℕ) (a b c : Known) → s < a.lanes → StaysSame a b → LeavesLane (a.set s) (a.lane s) (b.lane s) → LeavesLane (b.set s) (b.lane s) (c.lane s) → LeavesLane (a.set s) (a.lane s) (c.lane s)
left_on s a b c l same h k y here =
    let m = k y here in
    let x = h m.0 m.1 in
    (x.0, x.1, fed_on (a.set s) x.0 m.0 y x.2 (subst (λ (set : Setting). ComesByFeeds set m.0 y) (same.set s l) m.2))

-- others feed before it and after it
lane_gave_before : (s : ℕ) (mark : Mark) (a b c : Known) → s < a.lanes → StaysSame a b → LeavesLane (a.set s) (a.lane s) (b.lane s) → LaneGaveOut s mark b c → LaneGaveOut s mark a c
lane_gave_before s mark a b c l same h k = record {
  each = λ y here.
      let m = k.each y here in
      let x = h m.0 m.1 in
      (x.0, x.1, gave_out_before (a.set s) mark x.0 m.0 y x.2 (subst (λ (set : Setting). GaveOut set mark m.0 y) (same.set s l) m.2));
}

lane_gave_on : (s : ℕ) (mark : Mark) (a b c : Known) → s < a.lanes → StaysSame a b → LaneGaveOut s mark a b → LeavesLane (b.set s) (b.lane s) (c.lane s) → LaneGaveOut s mark a c
lane_gave_on s mark a b c l same h k = record {
  each = λ y here.
      let m = k y here in
      let x = h.each m.0 m.1 in
      (x.0, x.1, gave_out_on (a.set s) mark x.0 m.0 y x.2 (subst (λ (set : Setting). ComesByFeeds set m.0 y) (same.set s l) m.2));
}

-- one more lane was taken from
pub gave_out_more : (n : ℕ) (mark : Mark) (a b c : Known) → StaysSame a b → GaveOutTo n mark a b → OneGaveOut n mark b c → GaveOutTo (n + 1) mark a c
gave_out_more n mark a b c same h one = record {
  done = λ s l below. elim (same_or s n) [
    | inl e ↦ lane_gave_before s mark a b c l same (h.left s l (omega (arith, e))) (subst (λ (k : ℕ). LaneGaveOut k mark b c) (sym e) one.lane)
    | inr apart ↦ lane_gave_on s mark a b c l same (h.done s l (omega (arith, apart, below))) (one.left s (is_lane a b s same l) apart)
  ];
  left = λ s l above. left_on s a b c l same (h.left s l (omega (arith, above))) (one.left s (is_lane a b s same l) (λ e. omega (arith, e, above)));
}

pub gave_out_all : (n : ℕ) (mark : Mark) (a b : Known) → n ≡ a.lanes → GaveOutTo n mark a b → AllGaveOut mark a b
gave_out_all n mark a b e h = record { each = λ s l. h.done s l (subst (λ (m : ℕ). s < m) (sym e) l) }
