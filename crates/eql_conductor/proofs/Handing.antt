-- How many events lanes handed out, from call to call.
use Rattle.std.proofs.Common.{◌≡◌, ◌≢◌, inl, inr, ◌+◌, ◌++◌, ◌<◌, ◌≤◌, ℕ, ℤ, zero, suc, Bool, true, false, not, cond, List, [], ◌∷◌, Option, Some, length, refl, sym, ap, ◌∙◌, arith, subst, length-append}
use Rattle.std.specs.Prelude.{filter}
use Rattle.std.proofs.lemmas.List.{get_or_push}
use Rattle.eql_values.specs.declared.item.Item.{Item}
use Rattle.eql_values.specs.declared.order.Mark.{Mark}
use Rattle.eql_values.specs.declared.cut.LaneCut.{LaneCut}
use Rattle.eql_values.specs.Accepted.{readable, sorted_items}
use Rattle.eql_values.specs.Lines.{lines_of, numbered_lines}
use Rattle.eql_values.specs.Marks.{is_below}
use Rattle.eql_laws.specs.Apart.{joined_lists}
use Rattle.eql_laws.specs.Lateness.{accepted_by, late_by, larger}
use Rattle.eql_laws.proofs.BelowLemmas.{fewer_readable}
use Rattle.eql_laws.proofs.Counted.{lines_by_bytes}
use Rattle.eql_laws.proofs.CutLemmas.{sorted_fewer}
use Rattle.eql_lane.specs.declared.ops.LaneOp.TheVariants as op
use Rattle.eql_lane.specs.declared.ops.LaneReply.{LaneReply}
use Rattle.eql_lane.specs.declared.ops.LaneReply.TheVariants as reply
use Rattle.eql_lane.specs.declared.ops.ShardLimit.TheVariants as limit
use Rattle.eql_lane.specs.Lanes.{Setting, LaneState, IsFeedStep, IsSnapStep, IsTakeStep, ReadsOn, Takes, lesser, low}
use Rattle.eql_conductor.specs.declared.bench.NotPlayed.{NotPlayed}
use Rattle.eql_conductor.specs.Benches.{Known, StaysSame, FeedsTimes, ComesByFeeds, LanesRest, LanePlays, WasNotPlayed}
use Rattle.eql_conductor.specs.Handed.{HandsBy, total_to, LanesHand, LaneHands, AllHandOut, sizes}
use Rattle.eql_conductor.proofs.Resting.{same_or, is_lane}

-- ---- a lane
pub hands_self : (x : LaneState) → HandsBy 0 x x
hands_self x = record { most = omega arith }

hands_same : (x y : LaneState) → y ≡ x → HandsBy 0 x y
hands_same x y e = subst (HandsBy 0 x) (sym e) (hands_self x)

pub hands_on : (n m : ℕ) (x y z : LaneState) → HandsBy n x y → HandsBy m y z → HandsBy (n + m) x z
hands_on n m x y z h k = record { most = let a = h.most in let b = k.most in omega (arith, a, b) }

-- where one of them gave none
hands_after : (n : ℕ) (x y z : LaneState) → HandsBy 0 x y → HandsBy n y z → HandsBy n x z
hands_after n x y z h k = record { most = let a = h.most in let b = k.most in omega (arith, a, b) }

hands_before : (n : ℕ) (x y z : LaneState) → HandsBy n x y → HandsBy 0 y z → HandsBy n x z
hands_before n x y z h k = record { most = let a = h.most in let b = k.most in omega (arith, a, b) }

fewer_accepted : (slack best : Option ℤ) (items : List Item) → length (accepted_by slack best items) ≤ length items
fewer_accepted slack best [] = omega arith
fewer_accepted slack best (item ∷ items) = one (late_by slack best item) (accepted_by slack (Some (larger item.order.ts best)) items) (fewer_accepted slack (Some (larger item.order.ts best)) items)
  where
    one : (c : Bool) (xs : List Item) → length xs ≤ length items → length (cond c xs (item ∷ xs)) ≤ suc (length items)
    one true xs h = omega (arith, h)
    one false xs h = omega (arith, h)

reads_hand : (set : Setting) (x : LaneState) (n : ℕ) (y : LaneState) → ReadsOn set x n y → HandsBy 0 x y
reads_hand set x n y r =
    let got : List Item = readable set.reads set.shard (numbered_lines (1 + x.cut.counts.lines) x.cut.offset (lines_of r.more)) in
    let next : List Item = accepted_by set.slack x.cut.best got in
    let items = ap (λ (c : LaneCut). length c.items) r.cut in
    let offset = ap (λ (c : LaneCut). c.offset) r.cut in
    let sorted = sorted_fewer (x.cut.items ++ next) in
    let both = length-append x.cut.items next in
    let few = fewer_accepted set.slack x.cut.best got in
    let lines = fewer_readable set.reads set.shard (1 + x.cut.counts.lines) x.cut.offset (lines_of r.more) in
    let bytes = lines_by_bytes r.more in
    record { most = omega (arith, items, offset, sorted, both, few, lines, bytes) }

feed_hands : (set : Setting) (x : LaneState) (max : ℕ) (answer : LaneReply) (y : LaneState) → IsFeedStep set x max answer y → HandsBy 0 x y
feed_hands set x max (reply.Fed n) y step = reads_hand set x n y step.feeds.reads
feed_hands set x max (reply.Held k) y step = hands_same x y step.2
feed_hands set x max reply.Closed y step = reads_hand set x 0 y step.reads
feed_hands set x max (reply.Failed n) y step = reads_hand set x n y step.feeds.reads
feed_hands set x max (reply.Limit (limit.Lines shard)) y step = reads_hand set x step.1.n y step.1.feeds.reads
feed_hands set x max (reply.Limit (limit.Bytes shard)) y step = reads_hand set x step.1.n y step.1.feeds.reads
feed_hands set x max (reply.Memory n) y step = reads_hand set x n y step.feeds.reads
feed_hands set x max (reply.Taken items) y step = absurd step
feed_hands set x max (reply.Low mark) y step = absurd step
feed_hands set x max (reply.Cut cut) y step = absurd step

fed_times_hand : (set : Setting) (n : ℕ) (x y : LaneState) → FeedsTimes set n x y → HandsBy 0 x y
fed_times_hand set zero x y h = hands_same x y h
fed_times_hand set (suc n) x y (mid, max, answer, step, rest) = hands_after 0 x mid y (feed_hands set x max answer mid step) (fed_times_hand set n mid y rest)

pub fed_hands : (set : Setting) (x y : LaneState) → ComesByFeeds set x y → HandsBy 0 x y
fed_hands set x y h = fed_times_hand set h.0 x y h.1

apart_items : (mark : Mark) (items : List Item) → length (filter (is_below mark) items) + length (filter (λ (item : Item). not (is_below mark item)) items) ≡ length items
apart_items mark [] = refl
apart_items mark (item ∷ items) = one (is_below mark item) (filter (is_below mark) items) (filter (λ (i : Item). not (is_below mark i)) items) (length items) (apart_items mark items)
  where
    one : (c : Bool) (xs ys : List Item) (n : ℕ) → length xs + length ys ≡ n → length (cond c (item ∷ xs) xs) + length (cond (not c) (item ∷ ys) ys) ≡ suc n
    one true xs ys n e = omega (arith, e)
    one false xs ys n e = omega (arith, e)

take_hands_by : (x : LaneState) (mark : Mark) (items : List Item) (y : LaneState) → Takes x mark items y → HandsBy (length items) x y
take_hands_by x mark items y step =
    let given = ap (λ (l : List Item). length l) step.items_are in
    let left = ap (λ (c : LaneCut). length c.items) step.cut in
    let offset = ap (λ (c : LaneCut). c.offset) step.cut in
    let all = apart_items mark x.cut.items in
    record { most = omega (arith, given, left, offset, all) }

-- ---- sums
pub total_on : (k : ℕ) (f g : ℕ → ℕ) → total_to k (λ s. f s + g s) ≡ total_to k f + total_to k g
total_on zero f g = refl
total_on (suc k) f g = let e = total_on k f g in omega (arith, e)

total_none : (k : ℕ) → total_to k (λ s. 0) ≡ 0
total_none zero = refl
total_none (suc k) = let e = total_none k in omega (arith, e)

-- ---- all lanes
pub lanes_hand_on : (f g : ℕ → ℕ) (a b c : Known) → StaysSame a b → LanesHand f a b → LanesHand g b c → LanesHand (λ s. f s + g s) a c
lanes_hand_on f g a b c same h k = record {
  each = λ s l y here.
      let m = k.each s (is_lane a b s same l) y here in
      let o = h.each s l m.0 m.1 in
      (o.0, o.1, hands_on (f s) (g s) o.0 m.0 y o.2 m.2);
}

pub handed_none : (a b : Known) → LanesHand (λ s. 0) a b → AllHandOut 0 a b
handed_none a b h = record { counts = λ s. 0; total = let e = total_none a.lanes in omega (arith, e); each = h }

pub handed_self : (a : Known) → AllHandOut 0 a a
handed_self a = handed_none a a (record { each = λ s l y here. (y, here, hands_self y) })

pub rest_hands : (a b : Known) → LanesRest a b → LanesHand (λ s. 0) a b
rest_hands a b h = record { each = λ s l y here. let c = h.each s l y here in (c.0, c.1, fed_hands (a.set s) c.0 y c.2) }

pub handed_on : (n m : ℕ) (a b c : Known) → StaysSame a b → AllHandOut n a b → AllHandOut m b c → AllHandOut (n + m) a c
handed_on n m a b c same h k = record {
  counts = λ s. h.counts s + k.counts s;
  total = let e = total_on a.lanes h.counts k.counts in let f = h.total in let g = subst (λ (lanes : ℕ). m ≤ total_to lanes k.counts) same.lanes k.total in omega (arith, e, f, g);
  each = lanes_hand_on h.counts k.counts a b c same h.each k.each;
}

pub handed_to : (n m : ℕ) (a b : Known) → n ≤ m → AllHandOut m a b → AllHandOut n a b
handed_to n m a b le h = record { counts = h.counts; total = let t = h.total in omega (arith, le, t); each = h.each }

-- ---- a take
hands_less : (n : ℕ) (x y : LaneState) → HandsBy n x y → HandsBy 0 x y
hands_less n x y h = record { most = let a = h.most in omega (arith, a) }

take_hands_at : (s n : ℕ) (mark : Mark) (answer : LaneReply) (a b : Known) → ((x y : LaneState) → IsTakeStep (a.set s) x mark answer y → HandsBy n x y)
    → LanePlays s (op.Take mark) answer a b → LaneHands s n a b
take_hands_at s n mark answer a b hands plays = record {
  called = λ y here.
      let c = plays.called y here in
      (c.first, c.was, hands_after n c.first c.before y (fed_hands (a.set s) c.first c.before c.fed) (hands c.before y c.step));
  others = λ k l apart y here. let c = plays.others k l apart y here in (c.0, c.1, fed_hands (a.set k) c.0 y c.2);
}

pub taken_hands : (s : ℕ) (mark : Mark) (items : List Item) (a b : Known) → LanePlays s (op.Take mark) (reply.Taken items) a b → LaneHands s (length items) a b
taken_hands s mark items a b plays =
    take_hands_at s (length items) mark (reply.Taken items) a b (λ x y step. take_hands_by x (lesser mark (low (a.set s) x)) items y step) plays

lane_hands_none : (s : ℕ) (a b : Known) → LaneHands s 0 a b → LanesHand (λ k. 0) a b
lane_hands_none s a b h = record {
  each = λ k l. elim (same_or k s) [
    | inl e ↦ subst (λ (j : ℕ). (y : LaneState) → b.lane j y → (x : LaneState) × a.lane j x × HandsBy 0 x y) (sym e) h.called
    | inr apart ↦ h.others k l apart
  ];
}

pub lane_hands_less : (s n : ℕ) (a b : Known) → LaneHands s n a b → LanesHand (λ k. 0) a b
lane_hands_less s n a b h = lane_hands_none s a b (record {
  called = λ y here. let c = h.called y here in (c.0, c.1, hands_less n c.0 y c.2);
  others = h.others;
})

pub lacked_hands : (s n : ℕ) (mark : Mark) (a b : Known) → LanePlays s (op.Take mark) (reply.Memory n) a b → LanesHand (λ k. 0) a b
lacked_hands s n mark a b plays = lane_hands_none s a b (take_hands_at s 0 mark (reply.Memory n) a b (λ x y step. hands_same x y step.1) plays)

pub unplayed_hands : (by : NotPlayed) (a b : Known) → WasNotPlayed by a b → LanesHand (λ k. 0) a b
unplayed_hands by a b h = rest_hands a b h.rests.lanes

-- a snap hands out none
snap_hands_at : (set : Setting) (x : LaneState) (answer : LaneReply) (y : LaneState) → IsSnapStep x answer y → HandsBy 0 x y
snap_hands_at set x (reply.Cut cut) y step = hands_same x y step.1
snap_hands_at set x (reply.Memory n) y step = hands_same x y step.1
snap_hands_at set x (reply.Low mark) y step = absurd step
snap_hands_at set x (reply.Taken items) y step = absurd step
snap_hands_at set x (reply.Fed n) y step = absurd step
snap_hands_at set x (reply.Held k) y step = absurd step
snap_hands_at set x reply.Closed y step = absurd step
snap_hands_at set x (reply.Failed n) y step = absurd step
snap_hands_at set x (reply.Limit of) y step = absurd step

pub snap_hands : (s : ℕ) (answer : LaneReply) (a b : Known) → LanePlays s op.Snap answer a b → LanesHand (λ k. 0) a b
snap_hands s answer a b plays = lane_hands_none s a b (record {
  called = λ y here.
      let c = plays.called y here in
      (c.first, c.was, hands_after 0 c.first c.before y (fed_hands (a.set s) c.first c.before c.fed) (snap_hands_at (a.set s) c.before answer y c.step));
  others = λ k l apart y here. let c = plays.others k l apart y here in (c.0, c.1, fed_hands (a.set k) c.0 y c.2);
})

-- ---- all takes
pub sizes_none : (a : Known) → LanesHand (sizes []) a a
sizes_none a = record { each = λ s l y here. (y, here, hands_self y) }

sizes_else : (lists : List (List Item)) (items : List Item) (k : ℕ) → k ≢ length lists → sizes (lists ++ items ∷ []) k ≡ sizes lists k
sizes_else [] items zero apart = absurd (apart refl)
sizes_else [] items (suc k) apart = refl
sizes_else (first ∷ lists) items zero apart = refl
sizes_else (first ∷ lists) items (suc k) apart = sizes_else lists items k (λ e. apart (ap suc e))

module _ (n : ℕ) (lists more : List (List Item)) (items : List Item) (a b c : Known) (count : length lists ≡ n) (push : more ≡ lists ++ items ∷ []) (same : StaysSame a b) where
  at_this : sizes more n ≡ length items
  at_this = ap (λ (l : List (List Item)). sizes l n) push ∙ ap (λ (l : List Item). length l) (get_or_push lists items [] n count)

  at_other : (k : ℕ) → k ≢ n → sizes more k ≡ sizes lists k
  at_other k apart = ap (λ (l : List (List Item)). sizes l k) push ∙ sizes_else lists items k (λ e. apart (e ∙ count))

  pub sizes_more : LanesHand (sizes lists) a b → LaneHands n (length items) b c → LanesHand (sizes more) a c
  sizes_more h one = record {
    each = λ k l. elim (same_or k n) [
      | inl e ↦ subst (λ (j : ℕ). (y : LaneState) → c.lane j y → (x : LaneState) × a.lane j x × HandsBy (sizes more j) x y) (sym e) (λ y here.
          let m = one.called y here in
          let o = h.each n (subst (λ (j : ℕ). j < a.lanes) e l) m.0 m.1 in
          (o.0, o.1, subst (λ (t : ℕ). HandsBy t o.0 y) (sym at_this) (hands_after (length items) o.0 m.0 y (hands_less (sizes lists n) o.0 m.0 o.2) m.2)))
      | inr apart ↦ λ y here.
          let m = one.others k (is_lane a b k same l) apart y here in
          let o = h.each k l m.0 m.1 in
          (o.0, o.1, subst (λ (t : ℕ). HandsBy t o.0 y) (sym (at_other k apart)) (hands_before (sizes lists k) o.0 m.0 y o.2 m.2))
    ];
  }

pub sizes_lacked : (lists : List (List Item)) (a b c : Known) → StaysSame a b → LanesHand (sizes lists) a b → LanesHand (λ s. 0) b c → AllHandOut 0 a c
sizes_lacked lists a b c same h k = handed_none a c (record {
  each = λ s l y here.
      let m = k.each s (is_lane a b s same l) y here in
      let o = h.each s l m.0 m.1 in
      (o.0, o.1, hands_after 0 o.0 m.0 y (hands_less (sizes lists s) o.0 m.0 o.2) m.2);
})

total_shift : (n : ℕ) (f : ℕ → ℕ) → total_to (suc n) f ≡ f 0 + total_to n (λ k. f (suc k))
total_shift zero f = omega arith
total_shift (suc n) f = let e = total_shift n f in omega (arith, e)

total_joined : (lists : List (List Item)) → total_to (length lists) (sizes lists) ≡ length (joined_lists lists)
total_joined [] = refl
total_joined (items ∷ lists) =
    let e = total_shift (length lists) (sizes (items ∷ lists)) in
    let f = total_joined lists in
    let g = length-append items (joined_lists lists) in
    omega (arith, e, f, g)

pub handed_all : (lists : List (List Item)) (items : List Item) (a b : Known) → length lists ≡ a.lanes → items ≡ sorted_items (joined_lists lists) → LanesHand (sizes lists) a b → AllHandOut (length items) a b
handed_all lists items a b count e h = record {
  counts = sizes lists;
  total =
      let few = sorted_fewer (joined_lists lists) in
      let same = ap (λ (l : List Item). length l) e in
      let total = total_joined lists in
      subst (λ (n : ℕ). length items ≤ total_to n (sizes lists)) count (omega (arith, few, same, total));
  each = h;
}

-- so none at least
pub sizes_handed : (lists : List (List Item)) (a b : Known) → LanesHand (sizes lists) a b → AllHandOut 0 a b
sizes_handed lists a b h = record {
  counts = sizes lists;
  total = omega arith;
  each = h;
}
