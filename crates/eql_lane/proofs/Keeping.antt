-- What feeds and takes keep of a lane over a told text.
use Rattle.std.proofs.Common.{◌≡◌, inl, inr, ℕ, ℤ, Bool, true, false, cond, List, [], ◌∷◌, ◌++◌, length, drop, Option, Some, None, refl, sym, ap, ◌∙◌, ◌≤ℤ◌, arith, subst, append_assoc, length-append}
use Rattle.std.specs.Prelude.{filter, not, IsTrue, IfSome}
use Rattle.std.proofs.lemmas.List.{append-nil}
use Rattle.eql_digest.specs.declared.digest.Digest.{Digest}
use Rattle.eql_digest.specs.Digests.{start}
use Rattle.eql_digest.proofs.Taking.{with_bytes_append}
use Rattle.eql_values.specs.declared.order.Mark.{Mark}
use Rattle.eql_values.specs.declared.order.Mark.TheVariants.{Start, At, End}
use Rattle.eql_values.specs.declared.item.Item.{Item}
use Rattle.eql_values.specs.declared.cut.LaneCut.{LaneCut}
use Rattle.eql_values.specs.Accepted.{readable, accepted_items, sorted_items}
use Rattle.eql_values.specs.Lines.{lines_in}
use Rattle.eql_values.specs.Marks.{mark_cmp, is_below, low_of}
use Rattle.std.specs.Ordering.{is_le, int_cmp}
use Rattle.std.specs.declared.cmp.Ordering.{Ordering}
use Rattle.std.specs.declared.cmp.Ordering.TheVariants.{Less, Equal, Greater}
use Rattle.std.proofs.lemmas.Int.{ints}
use Rattle.std.proofs.lemmas.Cmp.{int_ranked}
use Rattle.eql_laws.specs.Belows.{from_to}
use Rattle.eql_laws.specs.Cuts.{held_back}
use Rattle.eql_laws.specs.Lanes.{lane_at}
use Rattle.eql_laws.specs.Lateness.{IsAtMost, best_of, best_from, accepted_by}
use Rattle.eql_laws.specs.Places.{ReadTo, IsPlace, low_at, is_line_end, ends_line, lines_after}
use Rattle.eql_laws.proofs.Handing.{held_back_grows, take_splits, late_between}
use Rattle.eql_laws.proofs.SafePlaces.{readable_goes_on}
use Rattle.eql_laws.proofs.CountsOn.{counts_go_on}
use Rattle.eql_laws.proofs.Kept.{best_goes_on, low_rises}
use Rattle.eql_laws.proofs.BelowLemmas.{sorted_with_more, sorted_below}
use Rattle.eql_laws.proofs.MarkLemmas.{at_most_end, at_most_self, at_most_times, at_most_trans, below_up}
use Rattle.eql_laws.proofs.LineLemmas.{lines_end_on}
use Rattle.eql_laws.proofs.Lists.{filter_implied}
use Rattle.eql_lane.specs.declared.ops.LaneReply.TheVariants as reply
use Rattle.eql_lane.specs.declared.ops.ShardLimit.TheVariants as limit
use Rattle.eql_lane.specs.Lanes.{Setting, LaneState, GoesOn, ReadsOn, Takes, low, lesser, greater, read_on, fresh_cut}
use Rattle.eql_lane.specs.Keeps.{LaneIs, HandsOut, TakesHandOut, FeedsKeep, FreshIs, CutsBegin}
use Rattle.eql_lane.proofs.Digesting.{none_added as digest_added}

-- what is dropped of two texts behind the first
drop_front : (a b : List ℕ) → drop (length a) (a ++ b) ≡ b
drop_front [] b = refl
drop_front (x ∷ a) b = drop_front a b

-- ---- places
line_end_front : (a b c : List ℕ) → IsTrue (is_line_end a (b ++ c)) → IsTrue (is_line_end a b)
line_end_front a [] c h = refl
line_end_front a (x ∷ b) c h = h

ends_last : (a : List ℕ) (x : ℕ) (b : List ℕ) → IsTrue (ends_line (x ∷ b)) → IsTrue (ends_line (a ++ x ∷ b))
ends_last [] x b h = h
ends_last (y ∷ []) x b h = h
ends_last (y ∷ z ∷ a) x b h = ends_last (z ∷ a) x b h

line_end_on : (a b c : List ℕ) → IsTrue (is_line_end a (b ++ c)) → IsTrue (ends_line b) → IsTrue (is_line_end (a ++ b) c)
line_end_on a b [] h e = refl
line_end_on a [] (y ∷ c) h e = subst (λ (l : List ℕ). IsTrue (ends_line l)) (sym (append-nil a)) h
line_end_on a (x ∷ b) (y ∷ c) h e = ends_last a x b e

-- ---- held
module _ (set : Setting) (mark : Mark) (place : ReadTo) (is_place : IsPlace place) (safe : IsAtMost mark (low_at set.reads set.slack set.shard place)) where
  held_more : (more rest : List ℕ) → place.rest ≡ more ++ rest → (closed : Bool) → place.closed ≡ closed
      → held_back set.reads set.slack set.shard (place.first ++ more) mark
      ≡ sorted_items (held_back set.reads set.slack set.shard place.first mark ++ accepted_by set.slack (best_of (readable set.reads set.shard (lines_in place.first))) (readable set.reads set.shard (lines_after place.first more)))
  held_more more rest parts false is_open =
      held_back_grows set.reads set.slack set.shard place.first more mark
      (line_end_front place.first more rest (subst (λ (l : List ℕ). IsTrue (is_line_end place.first l)) parts is_place.line_end))
      (subst (λ (c : Bool). IsAtMost mark (low_of c set.slack (best_of (readable set.reads set.shard (lines_in place.first))))) is_open safe)
  held_more [] rest parts true was =
      ap (λ (l : List ℕ). held_back set.reads set.slack set.shard l mark) (append-nil place.first)
      ∙ ap sorted_items (sym (append-nil (filter (λ item. not (is_below mark item)) (accepted_items set.reads set.slack set.shard place.first))))
      ∙ sym (sorted_with_more (filter (λ item. not (is_below mark item)) (accepted_items set.reads set.slack set.shard place.first)) [])
  held_more (x ∷ more) rest parts true was = let e = sym parts ∙ is_place.at_end was in cc

  safe_more : (more : List ℕ) (closed now : Bool) → place.closed ≡ closed → (closed ≡ true → now ≡ true) → IsTrue (is_line_end place.first more)
      → IsAtMost mark (low_of now set.slack (best_of (readable set.reads set.shard (lines_in (place.first ++ more)))))
  safe_more more true now was up line_end = subst (λ (c : Bool). IsAtMost mark (low_of c set.slack (best_of (readable set.reads set.shard (lines_in (place.first ++ more)))))) (sym (up refl)) (at_most_end mark)
  safe_more more false now was up line_end =
      let best : Option ℤ = best_of (readable set.reads set.shard (lines_in place.first)) in
      let b : List Item = readable set.reads set.shard (lines_after place.first more) in
      subst (λ (o : Option ℤ). IsAtMost mark (low_of now set.slack o)) (sym (ap best_of (readable_goes_on set.reads set.shard place.first more line_end) ∙ (best_goes_on (readable set.reads set.shard (lines_in place.first)) b).0))
      (at_most_trans mark (low_of false set.slack best) (low_of now set.slack (best_from best b))
      (subst (λ (c : Bool). IsAtMost mark (low_of c set.slack best)) was safe) (low_rises now set.slack best b))

  cut_more : (more rest : List ℕ) → place.rest ≡ more ++ rest → (now : Bool)
      → ◌≡◌ {A = LaneCut} (record (read_on set (lane_at set.reads set.slack set.shard mark place) more) { closed = now }) (lane_at set.reads set.slack set.shard mark (record { first = place.first ++ more; rest = rest; closed = now }))
  cut_more more rest parts now =
      let line_end : IsTrue (is_line_end place.first more) = line_end_front place.first more rest (subst (λ (l : List ℕ). IsTrue (is_line_end place.first l)) parts is_place.line_end) in
      λ i. record {
        offset = sym (length-append place.first more) i;
        digest = sym (with_bytes_append start place.first more) i;
        closed = now;
        best = sym (ap best_of (readable_goes_on set.reads set.shard place.first more line_end) ∙ (best_goes_on (readable set.reads set.shard (lines_in place.first)) (readable set.reads set.shard (lines_after place.first more))).0) i;
        counts = sym (counts_go_on set.reads set.slack set.shard place.first more line_end) i;
        items = sym (held_more more rest parts place.closed refl) i;
      }

told_at : (set : Setting) (text : List ℕ) (P : List ℕ → Type 0) → set.text ≡ Some text → IfSome set.text P → P text
told_at set text P e h = let Q : Option (List ℕ) → Type 0 = λ o. IfSome o P in subst Q e h

open_before : (was now : Bool) → (was ≡ true → now ≡ true) → now ≡ false → was ≡ false
open_before false now up e = refl
open_before true now up e = let x = up refl in cc

-- reading on keeps it
pub reads_keep : (set : Setting) (text : List ℕ) (mark : Mark) (old : LaneState) (n : ℕ) (new : LaneState) → set.text ≡ Some text
    → (old.cut.closed ≡ true → new.cut.closed ≡ true) → ReadsOn set old n new → LaneIs set text mark old → LaneIs set text mark new
reads_keep set text mark old n new e up r is =
    let goes : GoesOn text old.cut.offset r.more new.cut.closed = told_at set text (λ t. GoesOn t old.cut.offset r.more new.cut.closed) e r.told in
    let place : ReadTo = is.place in
    let parts : place.rest ≡ r.more ++ goes.rest =
    sym (drop_front place.first place.rest) ∙ ap (drop (length place.first)) is.text_is ∙ ap (λ (cut : LaneCut). drop cut.offset text) (sym is.cut) ∙ goes.parts in
    let line_end : IsTrue (is_line_end place.first (r.more ++ goes.rest)) = subst (λ (l : List ℕ). IsTrue (is_line_end place.first l)) parts is.is_place.line_end in
    record {
      place = record { first = place.first ++ r.more; rest = goes.rest; closed = new.cut.closed };
      text_is = append_assoc place.first r.more goes.rest ∙ ap (λ (l : List ℕ). place.first ++ l) (sym parts) ∙ is.text_is;
      is_place = record {
        line_end = elim r.ended [
          | inl ends ↦ line_end_on place.first r.more goes.rest line_end ends
          | inr closed ↦ subst (λ (l : List ℕ). IsTrue (is_line_end (place.first ++ r.more) l)) (sym (goes.at_end closed)) refl
        ];
        at_end = goes.at_end;
        whole_lines = λ is_open. elim r.ended [
          | inl ends ↦ lines_end_on place.first r.more (is.is_place.whole_lines (open_before place.closed new.cut.closed (λ was. up (ap (λ (cut : LaneCut). cut.closed) is.cut ∙ was)) is_open)) ends
          | inr closed ↦ (let e : true ≡ false = sym closed ∙ is_open in cc)
        ];
      };
      cut = r.cut ∙ ap (λ (cut : LaneCut). let c : LaneCut = record (read_on set cut r.more) { closed = new.cut.closed } in c) is.cut ∙ cut_more set mark place is.is_place is.safe r.more goes.rest parts new.cut.closed;
      given = subst (λ (m : Mark). IsAtMost m mark) (sym r.given) is.given;
      safe = safe_more set mark place is.is_place is.safe r.more place.closed new.cut.closed refl
          (λ was. up (ap (λ (cut : LaneCut). cut.closed) is.cut ∙ was)) (line_end_front place.first r.more goes.rest line_end);
    }

was_open : {old new : Bool} → old ≡ false → old ≡ true → new ≡ true
was_open e f = cc

pub feed_keeps : FeedsKeep
feed_keeps set text mark old max (reply.Fed n) new e step is = reads_keep set text mark old n new e (was_open step.feeds.was_open) step.feeds.reads is
feed_keeps set text mark old max (reply.Held k) new e step is = subst (LaneIs set text mark) (sym step.2) is
feed_keeps set text mark old max reply.Closed new e step is = reads_keep set text mark old 0 new e (λ _. step.closed) step.reads is
feed_keeps set text mark old max (reply.Failed n) new e step is = reads_keep set text mark old n new e (was_open step.feeds.was_open) step.feeds.reads is
feed_keeps set text mark old max (reply.Limit (limit.Lines shard)) new e step is = reads_keep set text mark old step.1.n new e (was_open step.1.feeds.was_open) step.1.feeds.reads is
feed_keeps set text mark old max (reply.Limit (limit.Bytes shard)) new e step is = reads_keep set text mark old step.1.n new e (was_open step.1.feeds.was_open) step.1.feeds.reads is
feed_keeps set text mark old max (reply.Memory n) new e step is = reads_keep set text mark old n new e (was_open step.feeds.was_open) step.feeds.reads is
feed_keeps set text mark old max (reply.Taken items) new e step is = elim step [ ]
feed_keeps set text mark old max (reply.Low m) new e step is = elim step [ ]
feed_keeps set text mark old max (reply.Cut cut) new e step is = elim step [ ]

-- ---- a take
below_after : (t u : ℤ) (o : Ordering) → o ≡ int_cmp t u → is_le o ≡ false → u ≤ℤ t
below_after t u Less e h = cc
below_after t u Equal e h = cc
below_after t u Greater e h = let k = int_ranked t u Greater e in omega (arith, ints, k)

at_most_start : (m : Mark) → IsAtMost Start m
at_most_start Start = refl
at_most_start (At t) = refl
at_most_start End = refl

-- one of two marks is at most the other
at_most_other : (m n : Mark) → is_le (mark_cmp m n) ≡ false → IsAtMost n m
at_most_other m Start h = at_most_start m
at_most_other (At t) (At u) h = at_most_times u t (below_after t u (int_cmp t u) refl h)
at_most_other End (At u) h = refl
at_most_other End End h = cc
at_most_other Start (At u) h = cc
at_most_other Start End h = cc
at_most_other (At t) End h = cc

lesser_low : (a b : Mark) (c : Bool) → is_le (mark_cmp a b) ≡ c → IsAtMost (cond c a b) b
lesser_low a b true h = h
lesser_low a b false h = at_most_self b

-- nothing from one mark on lies below a lesser one
none_between : (from to : Mark) (items : List Item) → IsAtMost to from → from_to from to items ≡ []
none_between from to [] le = refl
none_between from to (item ∷ items) le = one (is_below from item) (is_below to item) refl refl (none_between from to items le)
  where
    one : (b c : Bool) → is_below from item ≡ b → is_below to item ≡ c → from_to from to items ≡ [] → filter (is_below to) (cond (not b) (item ∷ filter (λ i. not (is_below from i)) items) (filter (λ i. not (is_below from i)) items)) ≡ []
    one true c e f h = h
    one false true e f h = let up = below_up to from item le f in let a = sym e ∙ up in cc
    one false false e f h = ap (λ (d : Bool). cond d (item ∷ from_to from to items) (from_to from to items)) f ∙ h

-- of items from one mark on none is left out by a lesser one
all_from : (from to : Mark) (items : List Item) → IsAtMost to from → filter (λ item. not (is_below to item)) (filter (λ item. not (is_below from item)) items) ≡ filter (λ item. not (is_below from item)) items
all_from from to items le = filter_implied (λ item. not (is_below to item)) (λ item. not (is_below from item)) (λ item h. not_up item (is_below from item) (is_below to item) refl refl h) items
  where
    not_up : (item : Item) (b c : Bool) → is_below from item ≡ b → is_below to item ≡ c → not (is_below from item) ≡ true → not (is_below to item) ≡ true
    not_up item b false e f h = ap not f
    not_up item true true e f h = let a = sym (ap not e) ∙ h in cc
    not_up item false true e f h = let a = sym e ∙ below_up to from item le f in cc

greater_up : (a b c : Mark) → IsAtMost a b → IsAtMost (greater a c) (greater b c)
greater_up a b c h = by_order (is_le (mark_cmp a c)) (is_le (mark_cmp b c)) refl refl
  where
    by_order : (d e : Bool) → is_le (mark_cmp a c) ≡ d → is_le (mark_cmp b c) ≡ e → IsAtMost (cond d c a) (cond e c b)
    by_order true true f g = at_most_self c
    by_order true false f g = at_most_other b c g
    by_order false true f g = at_most_trans a b c h g
    by_order false false f g = h

module _ (set : Setting) (text : List ℕ) (from : Mark) (old : LaneState) (items : List Item) (new : LaneState) (is : LaneIs set text from old) (bound : Mark) (step : Takes old bound items new)
    (safe : IsAtMost bound (low_at set.reads set.slack set.shard is.place)) where
  abbrev place : ReadTo
  place = is.place

  abbrev kept : List Item
  kept = filter (λ item. not (is_below from item)) (accepted_items set.reads set.slack set.shard place.first)

  held_is : old.cut.items ≡ held_back set.reads set.slack set.shard place.first from
  held_is = ap (λ (cut : LaneCut). cut.items) is.cut

  -- what is handed out is so by the text that was read
  handed_is : items ≡ sorted_items (from_to from bound (accepted_items set.reads set.slack set.shard place.first))
  handed_is = step.items_are ∙ ap (filter (is_below bound)) held_is ∙ (sorted_below bound kept).0

  given_is : IsAtMost new.given (greater from bound)
  given_is = subst (λ (m : Mark). IsAtMost m (greater from bound)) (sym step.given) (greater_up old.given from bound is.given)

  cut_is : (rest : List Item) → filter (λ item. not (is_below bound item)) (held_back set.reads set.slack set.shard place.first from) ≡ rest
      → ◌≡◌ {A = LaneCut} new.cut (record (lane_at set.reads set.slack set.shard from place) { items = rest })
  cut_is rest e = step.cut ∙ (λ i. let c : LaneCut = record (is.cut i) { items = filter (λ item. not (is_below bound item)) (held_is i) } in c)
      ∙ (λ i. let c : LaneCut = record (lane_at set.reads set.slack set.shard from place) { items = e i } in c)

  taken_on : IsAtMost from bound → HandsOut set text from bound items new
  taken_on le =
      let splits = take_splits set.reads set.slack set.shard place.first from bound le in
      let mark : greater from bound ≡ bound = ap (λ (c : Bool). cond c bound from) le in
      record {
        items_are = handed_is ∙ ap sorted_items (sym (late_between set.reads set.slack set.shard from bound place is.is_place safe))
            ∙ ap (λ (l : List ℕ). sorted_items (from_to from bound (accepted_items set.reads set.slack set.shard l))) is.text_is;
        is = record {
          place = place;
          text_is = is.text_is;
          is_place = is.is_place;
          cut = cut_is (held_back set.reads set.slack set.shard place.first bound) splits.held ∙ ap (λ (m : Mark). lane_at set.reads set.slack set.shard m place) (sym mark);
          given = given_is;
          safe = subst (λ (m : Mark). IsAtMost m (low_at set.reads set.slack set.shard place)) (sym mark) safe;
        };
      }

  taken_none : is_le (mark_cmp from bound) ≡ false → HandsOut set text from bound items new
  taken_none more =
      let le : IsAtMost bound from = at_most_other from bound more in
      let mark : greater from bound ≡ from = ap (λ (c : Bool). cond c bound from) more in
      record {
        items_are = handed_is ∙ ap sorted_items (none_between from bound (accepted_items set.reads set.slack set.shard place.first) le ∙ sym (none_between from bound (accepted_items set.reads set.slack set.shard text) le));
        is = record {
          place = place;
          text_is = is.text_is;
          is_place = is.is_place;
          cut = cut_is (held_back set.reads set.slack set.shard place.first from) ((sorted_below bound kept).1 ∙ ap sorted_items (all_from from bound (accepted_items set.reads set.slack set.shard place.first) le))
              ∙ ap (λ (m : Mark). lane_at set.reads set.slack set.shard m place) (sym mark);
          given = given_is;
          safe = subst (λ (m : Mark). IsAtMost m (low_at set.reads set.slack set.shard place)) (sym mark) is.safe;
        };
      }

  pub taken_either : (c : Bool) → is_le (mark_cmp from bound) ≡ c → HandsOut set text from bound items new
  taken_either true e = taken_on e
  taken_either false e = taken_none e

pub take_keeps : TakesHandOut
take_keeps set text from mark old items new step is =
    let bound : Mark = lesser mark (low set old) in
    let low_is : low set old ≡ low_at set.reads set.slack set.shard is.place = ap (λ (cut : LaneCut). low_of cut.closed set.slack cut.best) is.cut in
    taken_either set text from old items new is bound step
    (subst (IsAtMost bound) low_is (lesser_low mark (low set old) (is_le (mark_cmp mark (low set old))) refl))
    (is_le (mark_cmp from bound)) refl

-- ---- the start
from_start_of : (text : List ℕ) → IsTrue (is_line_end [] text)
from_start_of [] = refl
from_start_of (x ∷ text) = refl

start_low : (slack : Option ℤ) → IsAtMost Start (low_of false slack None)
start_low slack = at_most_start (low_of false slack None)

pub cuts_begin : CutsBegin
cuts_begin set mark place faults is_place safe = record {
  place = place;
  text_is = refl;
  is_place = is_place;
  cut = refl;
  given = at_most_start mark;
  safe = safe;
}

pub fresh_is : FreshIs
fresh_is set text faults = record {
  place = record { first = []; rest = text; closed = false };
  text_is = refl;
  is_place = record { line_end = from_start_of text; at_end = λ e. cc; whole_lines = λ e. refl };
  cut = ap (λ (d : Digest). let c : LaneCut = record fresh_cut { digest = d } in c) (digest_added start);
  given = refl;
  safe = start_low set.slack;
}
