-- What others do from call to call, put together.
use Rattle.std.proofs.Common.{◌≡◌, ◌≢◌, ◌⊎◌, inl, inr, ◌<◌, ℕ, zero, suc, refl, sym, ap, ◌∙◌, arith, subst}
use Rattle.eql_lane.specs.declared.ops.LaneOp.TheVariants as op
use Rattle.eql_lane.specs.declared.ops.LaneReply.{LaneReply}
use Rattle.eql_lane.specs.Lanes.{Setting, LaneState, IsFeedStep}
use Rattle.eql_parts.specs.declared.ops.PartOp.TheVariants as part_op
use Rattle.eql_parts.specs.declared.ops.PartReply.{PartReply}
use Rattle.eql_parts.specs.PartSteps.{Rules, PartState, IsTurnStep}
use Rattle.eql_conductor.specs.Benches.{Known, StaysSame, FeedsTimes, ComesByFeeds, TurnsTimes, ComesByTurns, LeavesLane, LeavesPart, LanesRest, PartsRest, Rests, LanePlays, PartPlays}

-- two numbers are the same or not
pub same_or : (a b : ℕ) → (a ≡ b) ⊎ (a ≢ b)
same_or zero zero = inl refl
same_or zero (suc b) = inr (λ e. omega (arith, e))
same_or (suc a) zero = inr (λ e. omega (arith, e))
same_or (suc a) (suc b) = elim (same_or a b) [
  | inl e ↦ inl (ap suc e)
  | inr apart ↦ inr (λ e. apart (omega (arith, e)))
]

-- ---- feeds
fed_times_on : (set : Setting) (n : ℕ) (x y z : LaneState) (m : ℕ) → FeedsTimes set n x y → FeedsTimes set m y z → ComesByFeeds set x z
fed_times_on set zero x y z m h k = (m, subst (λ (w : LaneState). FeedsTimes set m w z) h k)
fed_times_on set (suc n) x y z m (mid, max, answer, step, rest) k =
    let more = fed_times_on set n mid y z m rest k in (suc more.0, (mid, max, answer, step, more.1))

pub fed_on : (set : Setting) (x y z : LaneState) → ComesByFeeds set x y → ComesByFeeds set y z → ComesByFeeds set x z
fed_on set x y z h k = fed_times_on set h.0 x y z k.0 h.1 k.1

pub fed_self : (set : Setting) (x : LaneState) → ComesByFeeds set x x
fed_self set x = (0, refl)

pub fed_once : (set : Setting) (x y : LaneState) (max : ℕ) (answer : LaneReply) → IsFeedStep set x max answer y → ComesByFeeds set x y
fed_once set x y max answer step = (1, (y, max, answer, step, refl))

-- ---- turns
turned_times_on : (rules : Rules) (n : ℕ) (x y z : PartState) (m : ℕ) → TurnsTimes rules n x y → TurnsTimes rules m y z → ComesByTurns rules x z
turned_times_on rules zero x y z m h k = (m, subst (λ (w : PartState). TurnsTimes rules m w z) h k)
turned_times_on rules (suc n) x y z m (mid, max, answer, step, rest) k =
    let more = turned_times_on rules n mid y z m rest k in (suc more.0, (mid, max, answer, step, more.1))

pub turned_on : (rules : Rules) (x y z : PartState) → ComesByTurns rules x y → ComesByTurns rules y z → ComesByTurns rules x z
turned_on rules x y z h k = turned_times_on rules h.0 x y z k.0 h.1 k.1

pub turned_self : (rules : Rules) (x : PartState) → ComesByTurns rules x x
turned_self rules x = (0, refl)

pub turned_once : (rules : Rules) (x y : PartState) (max : ℕ) (answer : PartReply) → IsTurnStep rules x max answer y → ComesByTurns rules x y
turned_once rules x y max answer step = (1, (y, max, answer, step, refl))

-- ---- the same settings
pub same_self : (b : Known) → StaysSame b b
same_self b = record { lanes = refl; parts = refl; set = λ s h. refl; rules = λ p h. refl; some_lane = λ s l has. has; some_part = λ p l has. has }

pub was_lane : (a b : Known) (s : ℕ) → StaysSame a b → s < b.lanes → s < a.lanes
was_lane a b s same h = subst (λ (n : ℕ). s < n) same.lanes h

pub is_lane : (a b : Known) (s : ℕ) → StaysSame a b → s < a.lanes → s < b.lanes
is_lane a b s same h = subst (λ (n : ℕ). s < n) (sym same.lanes) h

pub was_part : (a b : Known) (p : ℕ) → StaysSame a b → p < b.parts → p < a.parts
was_part a b p same h = subst (λ (n : ℕ). p < n) same.parts h

pub is_part : (a b : Known) (p : ℕ) → StaysSame a b → p < a.parts → p < b.parts
is_part a b p same h = subst (λ (n : ℕ). p < n) (sym same.parts) h

pub same_on : (a b c : Known) → StaysSame a b → StaysSame b c → StaysSame a c
same_on a b c h k = record {
  lanes = k.lanes ∙ h.lanes;
  parts = k.parts ∙ h.parts;
  set = λ s l. k.set s (is_lane a b s h l) ∙ h.set s l;
  rules = λ p l. k.rules p (is_part a b p h l) ∙ h.rules p l;
  some_lane = λ s l has. k.some_lane s (is_lane a b s h l) (h.some_lane s l has);
  some_part = λ p l has. k.some_part p (is_part a b p h l) (h.some_part p l has);
}

-- ---- others alone
pub lanes_on : (a b c : Known) → StaysSame a b → LanesRest a b → LanesRest b c → LanesRest a c
lanes_on a b c same h k = record {
  each = λ s l y here.
      let m = k.each s (is_lane a b s same l) y here in
      let f = h.each s l m.0 m.1 in
      (f.0, f.1, fed_on (a.set s) f.0 m.0 y f.2 (subst (λ (set : Setting). ComesByFeeds set m.0 y) (same.set s l) m.2));
}

pub parts_on : (a b c : Known) → StaysSame a b → PartsRest a b → PartsRest b c → PartsRest a c
parts_on a b c same h k = record {
  each = λ p l y here.
      let m = k.each p (is_part a b p same l) y here in
      let f = h.each p l m.0 m.1 in
      (f.0, f.1, turned_on (a.rules p) f.0 m.0 y f.2 (subst (λ (rules : Rules). ComesByTurns rules m.0 y) (same.rules p l) m.2));
}

pub rests_self : (b : Known) → Rests b b
rests_self b = record {
  same = same_self b;
  lanes = record { each = λ s l y here. (y, here, fed_self (b.set s) y) };
  parts = record { each = λ p l y here. (y, here, turned_self (b.rules p) y) };
}

pub rests_on : (a b c : Known) → Rests a b → Rests b c → Rests a c
rests_on a b c h k = record {
  same = same_on a b c h.same k.same;
  lanes = lanes_on a b c h.same h.lanes k.lanes;
  parts = parts_on a b c h.same h.parts k.parts;
}

-- a feed of the caller is as good as one of others, and so is a look
pub lane_rests : (s : ℕ) (a b : Known) → ((y : LaneState) → b.lane s y → (x : LaneState) × a.lane s x × ComesByFeeds (a.set s) x y)
    → ((k : ℕ) → k < a.lanes → k ≢ s → LeavesLane (a.set k) (a.lane k) (b.lane k)) → LanesRest a b
lane_rests s a b called others = record {
  each = λ k l. elim (same_or k s) [
    | inl e ↦ subst (λ (j : ℕ). LeavesLane (a.set j) (a.lane j) (b.lane j)) (sym e) called
    | inr apart ↦ others k l apart
  ];
}

pub feed_rests : (s max : ℕ) (answer : LaneReply) (a b : Known) → LanePlays s (op.Feed max) answer a b → Rests a b
feed_rests s max answer a b plays = record {
  same = plays.same;
  lanes = lane_rests s a b (λ y here.
      let c = plays.called y here in
      (c.first, c.was, fed_on (a.set s) c.first c.before y c.fed (fed_once (a.set s) c.before y max answer c.step))) plays.others;
  parts = plays.parts;
}

-- a turn of the caller is as good as one of others
pub part_rests : (p : ℕ) (a b : Known) → ((y : PartState) → b.part p y → (x : PartState) × a.part p x × ComesByTurns (a.rules p) x y)
    → ((k : ℕ) → k < a.parts → k ≢ p → LeavesPart (a.rules k) (a.part k) (b.part k)) → PartsRest a b
part_rests p a b called others = record {
  each = λ k l. elim (same_or k p) [
    | inl e ↦ subst (λ (j : ℕ). LeavesPart (a.rules j) (a.part j) (b.part j)) (sym e) called
    | inr apart ↦ others k l apart
  ];
}

pub turn_rests : (p max : ℕ) (answer : PartReply) (a b : Known) → PartPlays p (part_op.Turn max) answer a b → Rests a b
turn_rests p max answer a b plays = record {
  same = plays.same;
  lanes = plays.lanes;
  parts = part_rests p a b (λ y here.
      let c = plays.called y here in
      (c.first, c.was, turned_on (a.rules p) c.first c.before y c.turned (turned_once (a.rules p) c.before y max answer c.step))) plays.others;
}
