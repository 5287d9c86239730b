-- What feeds and takes keep of a lane.
use Rattle.std.proofs.Common.{◌≡◌, ◌++◌, ◌+◌, ℕ, ℤ, Bool, true, false, cond, List, [], ◌∷◌, Option, Some, None, refl, sym, ap, subst}
use Rattle.std.specs.Prelude.{All, IfSome, filter, not}
use Rattle.std.proofs.lemmas.List.Elements.{All-append, All-cons, All-filter, All-head, All-nil, All-tail, All-weaker, filter_passes}
use Rattle.eql_values.specs.declared.item.Item.{Item}
use Rattle.eql_values.specs.declared.cut.LaneCut.{LaneCut}
use Rattle.eql_values.specs.declared.order.Mark.{Mark}
use Rattle.eql_values.specs.declared.order.OrderKey.{OrderKey}
use Rattle.eql_values.specs.declared.reader.LineGot.{LineGot}
use Rattle.eql_values.specs.declared.reader.LineGot.TheVariants as got
use Rattle.eql_values.specs.Accepted.{Reads, accepted_items, event_at, readable, sorted_items}
use Rattle.eql_values.specs.Ascending.{AllAreAfter, Ascend}
use Rattle.eql_values.specs.Lines.{Line, lines_of, numbered_lines}
use Rattle.eql_values.specs.Marks.{is_below, low_of}
use Rattle.eql_laws.specs.Belows.{HasRoutesInOrder, IsReading, from_to}
use Rattle.eql_laws.specs.Lateness.{IsAtMost, accepted_by, best_from, larger, late_by}
use Rattle.eql_laws.specs.Together.{AllAreBelow, NoneIsBelow}
use Rattle.eql_laws.proofs.BelowLemmas.{All-sorted, sorted_ascends}
use Rattle.eql_laws.proofs.Elements.{All-filter_map}
use Rattle.eql_laws.proofs.Kept.{low_rises}
use Rattle.eql_laws.proofs.MarkLemmas.{accepted_above, at_most_trans, low_up}
use Rattle.eql_lane.specs.declared.ops.LaneReply.{LaneReply}
use Rattle.eql_lane.specs.declared.ops.LaneReply.TheVariants as reply
use Rattle.eql_lane.specs.declared.ops.ShardLimit.TheVariants as limit
use Rattle.eql_lane.specs.Keeps.{LaneIs, HandsOut}
use Rattle.eql_lane.specs.Lanes.{Setting, LaneState, IsFeedStep, ReadsOn, Takes, WasClosed, greater, lesser, low}
use Rattle.eql_lane.proofs.Keeping.{feed_keeps, take_keeps}
use Rattle.eql_conductor.specs.LaneCalls.{IsOfShard, Holds, IsOfText, LaneIsAt, HandsOver, FeedKeepsLane, TakeMovesLane}

-- ---- events that are read
abbrev IsRead : ℕ → Item → Type 0
IsRead shard item = IsOfShard shard item × HasRoutesInOrder item

module _ (reads : Reads) (shard : ℕ) (reading : IsReading reads) where
  event_is : (line : Line) (g : LineGot) → reads shard line.number line.bytes ≡ g → IfSome (event_at line.at g) (IsRead shard)
  event_is line (got.Item item) e = let is = reading shard line.number line.bytes item e in (is.shard_is, is.routes_stand.0)
  event_is line got.Blank e = tt
  event_is line (got.Bad reason) e = tt

  all_lines : (lines : List Line) → All (λ (line : Line). Unit {0}) lines
  all_lines [] = All-nil (λ (line : Line). Unit {0})
  all_lines (line ∷ lines) = All-cons (λ (line : Line). Unit {0}) line lines tt (all_lines lines)

  all_read : (lines : List Line) → All (IsRead shard) (readable reads shard lines)
  all_read lines =
      All-filter_map (λ (line : Line). Unit {0}) (IsRead shard) (λ (line : Line). event_at line.at (reads shard line.number line.bytes))
      (λ line _. event_is line (reads shard line.number line.bytes) refl) lines (all_lines lines)

-- what holds of all holds of those that are accepted
all_one : (P : Item → Type 0) (late : Bool) (item : Item) (items : List Item) → P item → All P items → All P (cond late items (item ∷ items))
all_one P true item items h all = all
all_one P false item items h all = All-cons P item items h all

all_accepted : (P : Item → Type 0) (slack best : Option ℤ) (items : List Item) → All P items → All P (accepted_by slack best items)
all_accepted P slack best [] h = All-nil P
all_accepted P slack best (item ∷ items) h =
    all_one P (late_by slack best item) item (accepted_by slack (Some (larger item.order.ts best)) items) (All-head P item items h)
    (all_accepted P slack (Some (larger item.order.ts best)) items (All-tail P item items h))

-- no accepted event is below a mark that is at most the low
none_one : (mark : Mark) (late : Bool) (item : Item) (items : List Item) → (late ≡ false → is_below mark item ≡ false) → NoneIsBelow mark items
    → NoneIsBelow mark (cond late items (item ∷ items))
none_one mark true item items h none = none
none_one mark false item items h none = All-cons (λ (x : Item). is_below mark x ≡ false) item items (h refl) none

none_accepted : (mark : Mark) (slack best : Option ℤ) (items : List Item) → IsAtMost mark (low_of false slack best) → NoneIsBelow mark (accepted_by slack best items)
none_accepted mark slack best [] le = All-nil (λ (x : Item). is_below mark x ≡ false)
none_accepted mark slack best (item ∷ items) le =
    none_one mark (late_by slack best item) item (accepted_by slack (Some (larger item.order.ts best)) items)
    (λ e. accepted_above slack best mark item le e)
    (none_accepted mark slack (Some (larger item.order.ts best)) items
    (at_most_trans mark (low_of false slack best) (low_of false slack (Some (larger item.order.ts best))) le (low_up slack best item.order.ts)))

-- ---- events in order
routes_of_ascending : (items : List Item) → Ascend items → All HasRoutesInOrder items
routes_of_ascending [] h = All-nil HasRoutesInOrder
routes_of_ascending (item ∷ items) h = All-cons HasRoutesInOrder item items h.0 (routes_of_ascending items h.2)

after_one : (p : Bool) (event : OrderKey) (item : Item) (items : List Item) → AllAreAfter event (item ∷ []) → AllAreAfter event items → AllAreAfter event (cond p (item ∷ items) items)
after_one true event item items h k = (h.0, k)
after_one false event item items h k = k

after_filter : (p : Item → Bool) (event : OrderKey) (items : List Item) → AllAreAfter event items → AllAreAfter event (filter p items)
after_filter p event [] h = tt
after_filter p event (item ∷ items) h = after_one (p item) event item (filter p items) (h.0, tt) (after_filter p event items h.1)

ascends_one : (b : Bool) (item : Item) (items : List Item) → HasRoutesInOrder item → AllAreAfter item.order items → Ascend items → Ascend (cond b (item ∷ items) items)
ascends_one true item items h k asc = (h, k, asc)
ascends_one false item items h k asc = asc

-- what is left of ascending events ascends
ascends_filter : (p : Item → Bool) (items : List Item) → Ascend items → Ascend (filter p items)
ascends_filter p [] h = tt
ascends_filter p (item ∷ items) h =
    ascends_one (p item) item (filter p items) h.0 (after_filter p item.order items h.1) (ascends_filter p items h.2)

-- ---- a feed
module _ (set : Setting) (mark : Mark) (old : LaneState) (n : ℕ) (new : LaneState) (reading : IsReading set.reads) (was_open : old.cut.closed ≡ false)
    (r : ReadsOn set old n new) (h : Holds set mark old) where
  abbrev lines : List Line
  lines = numbered_lines (1 + old.cut.counts.lines) old.cut.offset (lines_of r.more)

  abbrev fresh : List Item
  fresh = readable set.reads set.shard lines

  abbrev taken : List Item
  taken = accepted_by set.slack old.cut.best fresh

  low_is : IsAtMost mark (low_of false set.slack old.cut.best)
  low_is = subst (λ (c : Bool). IsAtMost mark (low_of c set.slack old.cut.best)) was_open h.safe

  items_are : new.cut.items ≡ sorted_items (old.cut.items ++ taken)
  items_are = ap (λ (cut : LaneCut). cut.items) r.cut

  read_are : All (IsRead set.shard) taken
  read_are = all_accepted (IsRead set.shard) set.slack old.cut.best fresh (all_read set.reads set.shard reading lines)

  pub reads_hold : Holds set mark new
  reads_hold = record {
    ascends = subst Ascend (sym items_are) (sorted_ascends (old.cut.items ++ taken)
        (All-append HasRoutesInOrder old.cut.items taken (routes_of_ascending old.cut.items h.ascends)
        (All-weaker (IsRead set.shard) HasRoutesInOrder (λ item is. is.1) taken read_are)));
    of_shard = subst (All (IsOfShard set.shard)) (sym items_are) (All-sorted (IsOfShard set.shard) (old.cut.items ++ taken)
        (All-append (IsOfShard set.shard) old.cut.items taken h.of_shard
        (All-weaker (IsRead set.shard) (IsOfShard set.shard) (λ item is. is.0) taken read_are)));
    none_below = subst (NoneIsBelow mark) (sym items_are) (All-sorted (λ (x : Item). is_below mark x ≡ false) (old.cut.items ++ taken)
        (All-append (λ (x : Item). is_below mark x ≡ false) old.cut.items taken h.none_below (none_accepted mark set.slack old.cut.best fresh low_is)));
    safe = subst (λ (best : Option ℤ). IsAtMost mark (low_of new.cut.closed set.slack best)) (sym (ap (λ (cut : LaneCut). cut.best) r.cut))
        (at_most_trans mark (low_of false set.slack old.cut.best) (low_of new.cut.closed set.slack (best_from old.cut.best fresh)) low_is
        (low_rises new.cut.closed set.slack old.cut.best fresh));
  }

was_closed : (set : Setting) (mark : Mark) (old new : LaneState) (closed : Bool) → old.cut.closed ≡ closed → IsReading set.reads → WasClosed set old new → Holds set mark old → Holds set mark new
was_closed set mark old new true e reading step h = subst (Holds set mark) (sym (step.same e)) h
was_closed set mark old new false e reading step h = reads_hold set mark old 0 new reading e step.reads h

feed_holds : (set : Setting) (mark : Mark) (old : LaneState) (max : ℕ) (answer : LaneReply) (new : LaneState) → IsReading set.reads
    → IsFeedStep set old max answer new → Holds set mark old → Holds set mark new
feed_holds set mark old max (reply.Fed n) new reading step h = reads_hold set mark old n new reading step.feeds.was_open step.feeds.reads h
feed_holds set mark old max (reply.Held k) new reading step h = subst (Holds set mark) (sym step.2) h
feed_holds set mark old max reply.Closed new reading step h = was_closed set mark old new old.cut.closed refl reading step h
feed_holds set mark old max (reply.Failed n) new reading step h = reads_hold set mark old n new reading step.feeds.was_open step.feeds.reads h
feed_holds set mark old max (reply.Limit (limit.Lines shard)) new reading step h = reads_hold set mark old step.1.n new reading step.1.feeds.was_open step.1.feeds.reads h
feed_holds set mark old max (reply.Limit (limit.Bytes shard)) new reading step h = reads_hold set mark old step.1.n new reading step.1.feeds.was_open step.1.feeds.reads h
feed_holds set mark old max (reply.Memory n) new reading step h = reads_hold set mark old n new reading step.feeds.was_open step.feeds.reads h
feed_holds set mark old max (reply.Taken items) new reading step h = absurd step
feed_holds set mark old max (reply.Low m) new reading step h = absurd step
feed_holds set mark old max (reply.Cut cut) new reading step h = absurd step

feed_told : (text : Option (List ℕ)) (set : Setting) (mark : Mark) (old : LaneState) (max : ℕ) (answer : LaneReply) (new : LaneState)
    → IsFeedStep set old max answer new → IfSome text (IsOfText set mark old) → IfSome text (IsOfText set mark new)
feed_told None set mark old max answer new step h = tt
feed_told (Some t) set mark old max answer new step h = record { text_is = h.text_is; is = feed_keeps set t mark old max answer new h.text_is step h.is }

pub feed_keeps_lane : FeedKeepsLane
feed_keeps_lane text set mark old max answer new reading step at = record {
  holds = feed_holds set mark old max answer new reading step at.holds;
  told = feed_told text set mark old max answer new step at.told;
}

-- ---- a take
lesser_first : (a b : Mark) → IsAtMost a b → lesser a b ≡ a
lesser_first a b h = ap (λ (c : Bool). cond c a b) h

greater_second : (a b : Mark) → IsAtMost a b → greater a b ≡ b
greater_second a b h = ap (λ (c : Bool). cond c b a) h

was_false : (b : Bool) → not b ≡ true → b ≡ false
was_false true e = cc
was_false false e = refl

passes_not : (p : Item → Bool) (items : List Item) → All (λ (item : Item). p item ≡ false) (filter (λ item. not (p item)) items)
passes_not p items =
    All-weaker (λ (item : Item). not (p item) ≡ true) (λ (item : Item). p item ≡ false) (λ item e. was_false (p item) e) (filter (λ item. not (p item)) items)
    (filter_passes (λ item. not (p item)) items)

module _ (text : Option (List ℕ)) (set : Setting) (from to : Mark) (old : LaneState) (items : List Item) (new : LaneState) (up : IsAtMost from to)
    (safe : IsAtMost to (low set old)) (step : Takes old to items new) (at : LaneIsAt text set from old) where
  abbrev rest : List Item
  rest = filter (λ item. not (is_below to item)) old.cut.items

  items_left : new.cut.items ≡ rest
  items_left = ap (λ (cut : LaneCut). cut.items) step.cut

  holds_then : Holds set to new
  holds_then = record {
    ascends = subst Ascend (sym items_left) (ascends_filter (λ item. not (is_below to item)) old.cut.items at.holds.ascends);
    of_shard = subst (All (IsOfShard set.shard)) (sym items_left) (All-filter (λ item. not (is_below to item)) (IsOfShard set.shard) old.cut.items at.holds.of_shard);
    none_below = subst (NoneIsBelow to) (sym items_left) (passes_not (is_below to) old.cut.items);
    safe = subst (λ (cut : LaneCut). IsAtMost to (low_of cut.closed set.slack cut.best)) (sym step.cut) safe;
  }

  hands_then : (told : IfSome text (λ t. items ≡ sorted_items (from_to from to (accepted_items set.reads set.slack set.shard t)))) → HandsOver text set from to items
  hands_then told = record {
    ascends = subst Ascend (sym step.items_are) (ascends_filter (is_below to) old.cut.items at.holds.ascends);
    of_shard = subst (All (IsOfShard set.shard)) (sym step.items_are) (All-filter (is_below to) (IsOfShard set.shard) old.cut.items at.holds.of_shard);
    none_below = subst (NoneIsBelow from) (sym step.items_are) (All-filter (is_below to) (λ (x : Item). is_below from x ≡ false) old.cut.items at.holds.none_below);
    below = subst (AllAreBelow to) (sym step.items_are) (filter_passes (is_below to) old.cut.items);
    told = told;
  }

out_of_text : (set : Setting) (t : List ℕ) (from to : Mark) (old : LaneState) (items : List Item) (new : LaneState) → IsAtMost from to → IsAtMost to (low set old)
    → Takes old (lesser to (low set old)) items new → IsOfText set from old t
    → (items ≡ sorted_items (from_to from to (accepted_items set.reads set.slack set.shard t))) × IsOfText set to new t
out_of_text set t from to old items new up safe step is =
    let e : lesser to (low set old) ≡ to = lesser_first to (low set old) safe in
    let out : HandsOut set t from to items new = subst (λ (m : Mark). HandsOut set t from m items new) e (take_keeps set t from to old items new step is.is) in
    (out.items_are, record { text_is = is.text_is; is = subst (λ (m : Mark). LaneIs set t m new) (greater_second from to up) out.is })

pub take_moves_lane : TakeMovesLane
take_moves_lane None set from to old items new up safe step at =
    let plain : Takes old to items new = subst (λ (m : Mark). Takes old m items new) (lesser_first to (low set old) safe) step in
    record {
      hands = hands_then None set from to old items new up safe plain at tt;
      at = record { holds = holds_then None set from to old items new up safe plain at; told = tt };
    }
take_moves_lane (Some t) set from to old items new up safe step at =
    let plain : Takes old to items new = subst (λ (m : Mark). Takes old m items new) (lesser_first to (low set old) safe) step in
    let both = out_of_text set t from to old items new up safe step at.told in
    record {
      hands = hands_then (Some t) set from to old items new up safe plain at both.0;
      at = record { holds = holds_then (Some t) set from to old items new up safe plain at; told = both.1 };
    }
