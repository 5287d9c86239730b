-- A lane that is fed goes a step, is closed, or reads nothing until it hands out.
use Rattle.std.proofs.Common.{◌≡◌, ◌≢◌, ◌⊎◌, inl, inr, ℕ, zero, suc, ◌≤◌, ◌<◌, Bool, true, false, cond, List, [], ◌∷◌, length, refl, sym, ap, ◌∙◌, arith, subst}
use Rattle.std.specs.Prelude.{filter}
use Rattle.std.specs.Ordering.{is_le}
use Rattle.std.proofs.lemmas.List.Elements.{All-head, All-tail}
use Rattle.eql_values.specs.declared.item.Item.{Item}
use Rattle.eql_values.specs.declared.order.Mark.{Mark}
use Rattle.eql_values.specs.declared.order.Mark.TheVariants.{End}
use Rattle.eql_values.specs.Marks.{is_below, low_of, mark_cmp}
use Rattle.eql_laws.specs.Lateness.{IsAtMost}
use Rattle.eql_laws.specs.Together.{NoneIsBelow}
use Rattle.eql_laws.proofs.MarkLemmas.{below_up}
use Rattle.eql_lane.specs.declared.ops.LaneReply.{LaneReply}
use Rattle.eql_lane.specs.declared.ops.LaneReply.TheVariants as reply
use Rattle.eql_lane.specs.declared.ops.ShardLimit.TheVariants as limit
use Rattle.eql_lane.specs.Lanes.{Setting, LaneState, Feeds, IsFeedStep, FeedsLines, Takes, lesser, low, ready}
use Rattle.eql_conductor.specs.LaneCalls.{Holds}
use Rattle.eql_conductor.specs.Benches.{FeedsTimes, ComesByFeeds}
use Rattle.eql_conductor.specs.Bounds.{Gains, GaveOut, HadLow, IsHolding, WasFed}
use Rattle.eql_conductor.proofs.BoundsSteps.{gains_on, gains_self, reads_step, take_gains, takes_step}
use Rattle.eql_conductor.proofs.Onward.{fed_onward}

pub fed_gains : (set : Setting) (x y : LaneState) → ComesByFeeds set x y → Gains 0 x y
fed_gains set x y h = (fed_onward set x y h).gains

-- ---- a lane that holds so much is left as it is
too_full : (set : Setting) (x : LaneState) {X : Type 0} → IsHolding set x → ready set x < 65536 → X
too_full set x {X} h k = absurd (omega (arith, h, k))

holding_feed : (set : Setting) (x : LaneState) (max : ℕ) (answer : LaneReply) (y : LaneState) → IsHolding set x → IsFeedStep set x max answer y → y ≡ x
holding_feed set x max (reply.Fed n) y h step = too_full set x h step.feeds.not_full
holding_feed set x max (reply.Held k) y h step = step.2
holding_feed set x max reply.Closed y h step = too_full set x h step.not_full
holding_feed set x max (reply.Failed n) y h step = too_full set x h step.feeds.not_full
holding_feed set x max (reply.Limit (limit.Lines shard)) y h step = too_full set x h step.1.feeds.not_full
holding_feed set x max (reply.Limit (limit.Bytes shard)) y h step = too_full set x h step.1.feeds.not_full
holding_feed set x max (reply.Memory n) y h step = too_full set x h step.feeds.not_full
holding_feed set x max (reply.Taken items) y h step = absurd step
holding_feed set x max (reply.Low mark) y h step = absurd step
holding_feed set x max (reply.Cut cut) y h step = absurd step

holding_times : (set : Setting) (n : ℕ) (x y : LaneState) → IsHolding set x → FeedsTimes set n x y → y ≡ x
holding_times set zero x y h fed = fed
holding_times set (suc n) x y h (mid, max, answer, step, rest) =
    let e : mid ≡ x = holding_feed set x max answer mid h step in
    holding_times set n mid y (subst (IsHolding set) (sym e) h) rest ∙ e

pub holding_stays : (set : Setting) (x y : LaneState) → IsHolding set x → ComesByFeeds set x y → y ≡ x
holding_stays set x y h fed = holding_times set fed.0 x y h fed.1

-- ---- a lane that is closed stays so
was_open : (set : Setting) (x : LaneState) (max n : ℕ) (y : LaneState) → x.cut.closed ≡ true → Feeds set x max n y → y.cut.closed ≡ true
was_open set x max n y e feeds = absurd (let f = sym feeds.was_open ∙ e in cc)

closed_feed : (set : Setting) (x : LaneState) (max : ℕ) (answer : LaneReply) (y : LaneState) → x.cut.closed ≡ true → IsFeedStep set x max answer y → y.cut.closed ≡ true
closed_feed set x max (reply.Fed n) y e step = was_open set x max n y e step.feeds
closed_feed set x max (reply.Held k) y e step = ap (λ (z : LaneState). z.cut.closed) step.2 ∙ e
closed_feed set x max reply.Closed y e step = step.closed
closed_feed set x max (reply.Failed n) y e step = was_open set x max n y e step.feeds
closed_feed set x max (reply.Limit (limit.Lines shard)) y e step = was_open set x max step.1.n y e step.1.feeds
closed_feed set x max (reply.Limit (limit.Bytes shard)) y e step = was_open set x max step.1.n y e step.1.feeds
closed_feed set x max (reply.Memory n) y e step = was_open set x max n y e step.feeds
closed_feed set x max (reply.Taken items) y e step = absurd step
closed_feed set x max (reply.Low mark) y e step = absurd step
closed_feed set x max (reply.Cut cut) y e step = absurd step

closed_times : (set : Setting) (n : ℕ) (x y : LaneState) → x.cut.closed ≡ true → FeedsTimes set n x y → y.cut.closed ≡ true
closed_times set zero x y e fed = ap (λ (z : LaneState). z.cut.closed) fed ∙ e
closed_times set (suc n) x y e (mid, max, answer, step, rest) = closed_times set n mid y (closed_feed set x max answer mid e step) rest

-- ---- the caller's own feed
lines_step : (set : Setting) (x : LaneState) (max n : ℕ) (y : LaneState) → FeedsLines set x max n y → Gains 1 x y
lines_step set x max zero y step = takes_step set x 0 y step.feeds.reads (let e = step.none refl in omega (arith, e))
lines_step set x max (suc n) y step = reads_step set x (suc n) y step.feeds.reads (omega arith)

pub fed_lines : (set : Setting) (x : LaneState) (max n : ℕ) (y : LaneState) → IsFeedStep set x max (reply.Fed n) y → WasFed set x y
fed_lines set x max n y step = record { on = (let a = lines_step set x max n y step in omega (arith, a)); step = inl (lines_step set x max n y step) }

pub fed_held : (set : Setting) (x : LaneState) (max k : ℕ) (y : LaneState) → IsFeedStep set x max (reply.Held k) y → WasFed set x y
fed_held set x max k y step = record {
  on = subst (Gains 0 x) (sym step.2) (gains_self x);
  step = inr (inr (subst (IsHolding set) (sym step.2) (let a = step.0 in let b = step.1 in omega (arith, a, b))));
}

pub fed_closed : (set : Setting) (x : LaneState) (max : ℕ) (y : LaneState) → Gains 0 x y → IsFeedStep set x max reply.Closed y → WasFed set x y
fed_closed set x max y on step = record { on = on; step = inr (inl step.closed) }

-- ---- others feed before it and after it
pub was_fed_before : (set : Setting) (x y z : LaneState) → ComesByFeeds set x y → WasFed set y z → WasFed set x z
was_fed_before set x y z fed h = record { on = gains_on 0 0 x y z (fed_gains set x y fed) h.on; step = by h.step }
  where
    by : Gains 1 y z ⊎ ((z.cut.closed ≡ true) ⊎ IsHolding set z) → Gains 1 x z ⊎ ((z.cut.closed ≡ true) ⊎ IsHolding set z)
    by (inl g) = inl (gains_on 0 1 x y z (fed_gains set x y fed) g)
    by (inr other) = inr other

pub was_fed_on : (set : Setting) (x y z : LaneState) → WasFed set x y → ComesByFeeds set y z → WasFed set x z
was_fed_on set x y z h fed = record { on = gains_on 0 0 x y z h.on (fed_gains set y z fed); step = by h.step }
  where
    by : Gains 1 x y ⊎ ((y.cut.closed ≡ true) ⊎ IsHolding set y) → Gains 1 x z ⊎ ((z.cut.closed ≡ true) ⊎ IsHolding set z)
    by (inl g) = inl (gains_on 1 0 x y z g (fed_gains set y z fed))
    by (inr (inl e)) = inr (inl (closed_times set fed.0 y z e fed.1))
    by (inr (inr much)) = inr (inr (subst (IsHolding set) (sym (holding_stays set y z much fed)) much))

-- ---- a take
lesser_self : (m : Mark) → lesser m m ≡ m
lesser_self m = by (is_le (mark_cmp m m))
  where
    by : (c : Bool) → cond c m m ≡ m
    by true = refl
    by false = refl

-- others feed, what lies below the mark is taken, and others feed
pub gave_out : (set : Setting) (mark : Mark) (x y : LaneState) (items : List Item) (z w : LaneState) → ComesByFeeds set x y → Takes y (lesser mark (low set y)) items z → ComesByFeeds set z w
    → GaveOut set mark x w
gave_out set mark x y items z w before take later = record {
  on = gains_on 0 0 x y w (fed_gains set x y before) (gains_on 0 0 y z w (take_gains y (lesser mark (low set y)) items z take 0 (omega arith)) (fed_gains set z w later));
  step = λ much is_low.
      let same : y ≡ x = holding_stays set x y much before in
      let at : lesser mark (low set y) ≡ low set y = ap (λ (m : Mark). lesser m (low set y)) (sym (ap (low set) same ∙ is_low)) ∙ lesser_self (low set y) in
      let here : IsHolding set y = subst (IsHolding set) (sym same) much in
      let some : 1 ≤ length (filter (is_below (lesser mark (low set y))) y.cut.items) =
      subst (λ (m : Mark). 1 ≤ length (filter (is_below m) y.cut.items)) (sym at) (omega (arith, here)) in
      gains_on 0 1 x y w (fed_gains set x y before) (gains_on 1 0 y z w (take_gains y (lesser mark (low set y)) items z take 1 some) (fed_gains set z w later));
}

pub gave_out_before : (set : Setting) (mark : Mark) (x y z : LaneState) → ComesByFeeds set x y → GaveOut set mark y z → GaveOut set mark x z
gave_out_before set mark x y z fed h = record {
  on = gains_on 0 0 x y z (fed_gains set x y fed) h.on;
  step = λ much is_low.
      let same : y ≡ x = holding_stays set x y much fed in
      gains_on 0 1 x y z (fed_gains set x y fed) (h.step (subst (IsHolding set) (sym same) much) (ap (low set) same ∙ is_low));
}

pub gave_out_on : (set : Setting) (mark : Mark) (x y z : LaneState) → GaveOut set mark x y → ComesByFeeds set y z → GaveOut set mark x z
gave_out_on set mark x y z h fed = record {
  on = gains_on 0 0 x y z h.on (fed_gains set y z fed);
  step = λ much is_low. gains_on 1 0 x y z (h.step much is_low) (fed_gains set y z fed);
}

-- ---- the lane with the least low
-- no event is ready at a lane that handed out all below a mark, where its low is at most that
none_one : (p : Bool) (item : Item) (items : List Item) → p ≡ false → items ≡ [] → cond p (item ∷ items) items ≡ []
none_one true item items e f = cc
none_one false item items e f = f

not_below : (mark last : Mark) (item : Item) (b : Bool) → IsAtMost mark last → is_below mark item ≡ b → is_below last item ≡ false → b ≡ false
not_below mark last item true le e f = let g = below_up mark last item le e in cc
not_below mark last item false le e f = refl

none_ready : (mark last : Mark) (items : List Item) → IsAtMost mark last → NoneIsBelow last items → filter (is_below mark) items ≡ []
none_ready mark last [] le none = refl
none_ready mark last (item ∷ items) le none =
    none_one (is_below mark item) item (filter (is_below mark) items)
    (not_below mark last item (is_below mark item) le refl (All-head (λ (i : Item). is_below last i ≡ false) item items none))
    (none_ready mark last items le (All-tail (λ (i : Item). is_below last i ≡ false) item items none))

-- a lane with this low, that was fed and looked at
module _ (set : Setting) (mark : Mark) (x y z : LaneState) (fed : WasFed set x y) (had : HadLow set mark y z) (before_end : mark ≢ End) where
  -- it went a step, or it is left as it was when it had the low
  pub looked : Gains 1 x z ⊎ (IsHolding set z × (low set z ≡ mark))
  looked = by (was_fed_on set x y had.state fed had.before).step
    where
      by : Gains 1 x had.state ⊎ ((had.state.cut.closed ≡ true) ⊎ IsHolding set had.state) → Gains 1 x z ⊎ (IsHolding set z × (low set z ≡ mark))
      by (inl g) = inl (gains_on 1 0 x had.state z g (fed_gains set had.state z had.later))
      by (inr (inl e)) = absurd (before_end (sym had.low_is ∙ ap (λ (c : Bool). low_of c set.slack had.state.cut.best) e))
      by (inr (inr much)) =
          let same : z ≡ had.state = holding_stays set had.state z much had.later in
          inr (subst (IsHolding set) (sym same) much, ap (low set) same ∙ had.low_is)

  -- where the round doesn't count, it went a step
  pub step_of_rest : (last : Mark) → Holds set last z → IsAtMost mark last → Gains 1 x z
  step_of_rest last holds le = by looked
    where
      by : Gains 1 x z ⊎ (IsHolding set z × (low set z ≡ mark)) → Gains 1 x z
      by (inl g) = g
      by (inr (much, is_low)) = absurd (
          let none = ap (λ (l : List Item). length l) (none_ready (low set z) last z.cut.items (subst (λ (m : Mark). IsAtMost m last) (sym is_low) le) holds.none_below) in
          omega (arith, much, none))

  -- where it counts, it did so too, once it was taken from
  pub step_of_take : (w : LaneState) → GaveOut set mark z w → Gains 1 x w
  step_of_take w gave = by looked
    where
      by : Gains 1 x z ⊎ (IsHolding set z × (low set z ≡ mark)) → Gains 1 x w
      by (inl g) = gains_on 1 0 x z w g gave.on
      by (inr (much, is_low)) = gains_on 0 1 x z w (gains_on 0 0 x y z fed.on (gains_on 0 0 y had.state z (fed_gains set y had.state had.before) (fed_gains set had.state z had.later))) (gave.step much is_low)
