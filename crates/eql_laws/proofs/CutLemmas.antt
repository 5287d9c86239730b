-- What is kept of texts at a mark is as it is said to be.
use Rattle.std.proofs.Common.{◌≡◌, ◌≤◌, ℕ, suc, ◌+◌, ℤ, pos, Bool, true, false, cond, List, [], ◌∷◌, ◌++◌, map, length, Option, Some, None, refl, sym, ◌∙◌, subst, arith}
use Rattle.std.specs.Prelude.{filter, not, nat_lt, All, IfSome, IsTrue}
use Rattle.std.specs.Prelude.{is_some}
use Rattle.std.specs.FinMap.Entries.{put, find, length-put}
use Rattle.std.proofs.lemmas.Bool.Decides.{nat_tests}
use Rattle.std.proofs.lemmas.List.{append-nil, length-map}
use Rattle.std.proofs.lemmas.List.Elements.{All-nil, All-append, All-filter, All-weaker}
use Rattle.eql_values.specs.declared.order.OrderKey.{OrderKey}
use Rattle.eql_values.specs.declared.order.Mark.{Mark}
use Rattle.eql_values.specs.declared.order.Mark.TheVariants.{Start, At, End}
use Rattle.eql_values.specs.declared.item.Route.{Route}
use Rattle.eql_values.specs.declared.item.Item.{Item}
use Rattle.eql_values.specs.declared.found.Holder.{Holder}
use Rattle.eql_values.specs.declared.reader.LineGot.{LineGot}
use Rattle.eql_values.specs.declared.reader.LineGot.TheVariants as got
use Rattle.eql_values.specs.Accepted.{Reads, event_at, readable, accepted_items, accepted_from, sorted_items, below}
use Rattle.eql_values.specs.Ascending.{Ascend}
use Rattle.eql_values.specs.Lines.{Line, lines_in}
use Rattle.eql_values.specs.Marks.{is_below}
use Rattle.eql_values.specs.Matching.{matches, after, opening_of}
use Rattle.eql_values.specs.OrderKeys.{order_cmp}
use Rattle.eql_values.specs.Totals.{order_cmp_total}
use Rattle.eql_values.specs.Ordered.{in_order}
use Rattle.eql_values.proofs.InOrder.{in_order-sorted}
use Rattle.eql_laws.specs.Alive.{alive_at, HoldersAreInOrder, alive_holders}
use Rattle.eql_laws.specs.Belows.{IsReading, IsAcceptedOf, IsBelow, HasRoutesInOrder}
use Rattle.eql_laws.specs.Cuts.{held_back, IsHeldBack, HeldBackFits, is_of, IsPending, PendingFits, IsFound, FoundFits, RoutesStay}
use Rattle.eql_laws.specs.Shapes.{IsReady, IsFull, EventsPass, EventsKeep, FirstsFall}
use Rattle.eql_laws.proofs.BelowLemmas.{All-sorted, All-accepted, accepted_of_text, below_are, below_ascends, sorted_ascends}
use Rattle.eql_laws.proofs.Elements.{All-filter_map, All-passed}
use Rattle.eql_laws.proofs.Facts.{true_both}
use Rattle.eql_laws.proofs.Falling.{after_falls, when_some}
use Rattle.eql_laws.proofs.LeftOut.{after_in_order, alive_in_order, opening_alive}
use Rattle.eql_laws.proofs.Shaping.{matches_ascend, after_is_ready, matches_are_full, after_is_full, after_has_stages, events_stay}
use Rattle.eql_laws.proofs.Sorting.{Entry, pair, back}

pub filter_fewer : (p : Item → Bool) (items : List Item) → length (filter p items) ≤ length items
filter_fewer p [] = omega arith
filter_fewer p (item ∷ items) = one (p item) (length items) (filter_fewer p items)
  where
    one : (b : Bool) (n : ℕ) → length (filter p items) ≤ n → length (cond b (item ∷ filter p items) (filter p items)) ≤ suc n
    one true n h = omega (arith, h)
    one false n h = omega (arith, h)

in_order_fewer : (es : List Entry) → length (in_order order_cmp es) ≤ length es
in_order_fewer [] = omega arith
in_order_fewer (e ∷ es) =
    one (is_some (find order_cmp e.0 (in_order order_cmp es))) (length (in_order order_cmp es)) (length es) (length (put order_cmp e.0 e.1 (in_order order_cmp es)))
    (length-put order_cmp order_cmp_total e.0 e.1 (in_order order_cmp es) (in_order-sorted order_cmp order_cmp_total es)) (in_order_fewer es)
  where
    one : (b : Bool) (n l whole : ℕ) → whole ≡ cond b n (n + 1) → n ≤ l → whole ≤ suc l
    one true n l whole e h = omega (arith, e, h)
    one false n l whole e h = omega (arith, e, h)

pub sorted_fewer : (items : List Item) → length (sorted_items items) ≤ length items
sorted_fewer items =
    let a : length (sorted_items items) ≡ length (in_order order_cmp (map pair items)) = length-map (in_order order_cmp (map pair items)) back in
    let b : length (map pair items) ≡ length items = length-map items pair in
    let c : length (in_order order_cmp (map pair items)) ≤ length (map pair items) = in_order_fewer (map pair items) in
    omega (arith, a, b, c)

not_true : (b : Bool) → not b ≡ true → b ≡ false
not_true true e = cc
not_true false e = refl

pub held_back_fits : HeldBackFits
held_back_fits reads slack shard text mark reading =
    let all = (accepted_of_text reads slack shard text reading).all in
    record {
      all = All-sorted (IsHeldBack shard text mark) (filter (λ item. not (is_below mark item)) (accepted_items reads slack shard text))
          (All-passed (IsAcceptedOf shard text) (IsHeldBack shard text mark) (λ item. not (is_below mark item))
          (λ item h e. record { accepted = h; not_below = not_true (is_below mark item) e }) (accepted_items reads slack shard text) all);
      ascending = sorted_ascends (filter (λ item. not (is_below mark item)) (accepted_items reads slack shard text))
          (All-passed (IsAcceptedOf shard text) HasRoutesInOrder (λ item. not (is_below mark item)) (λ item h e. h.routes_stand.0) (accepted_items reads slack shard text) all);
      fewer = (let a = sorted_fewer (filter (λ item. not (is_below mark item)) (accepted_items reads slack shard text)) in
          let b = filter_fewer (λ item. not (is_below mark item)) (accepted_items reads slack shard text) in omega (arith, a, b));
    }

below_by_place : (mark : Mark) (item : Item) → is_below mark item ≡ true → is_below mark (record { order = item.order; routes = [] }) ≡ true
below_by_place Start item e = e
below_by_place (At t) item e = e
below_by_place End item e = e

-- a test of places that each event below a mark passes
events_of : (reads : Reads) (slack : Option ℤ) (texts : List (List ℕ)) (mark : Mark) → IsReading reads
    → All (λ (item : Item). IsTrue (is_of (length texts) mark item.order)) (below reads slack texts mark)
events_of reads slack texts mark reading =
    All-weaker (IsBelow (length texts) mark) (λ (item : Item). IsTrue (is_of (length texts) mark item.order))
    (λ item h. true_both (is_below mark (record { order = item.order; routes = [] })) (nat_lt item.order.shard (length texts)) (below_by_place mark item h.below)
    (let lt = h.shard_is in grind (arith, nat_tests, lt)))
    (below reads slack texts mark) (below_are reads slack texts mark reading)

no_holders : (P : Holder → Type 0) → All P []
no_holders P = All-nil P

none_falls : FirstsFall []
none_falls key j k c d lt e f = cc

module _ (m : ℕ) (span : Option ℤ) (t : ℤ) (reads : Reads) (slack : Option ℤ) (texts : List (List ℕ)) (mark : Mark) (reading : IsReading reads) where
  abbrev items : List Item
  items = below reads slack texts mark

  up : Ascend items
  up = below_ascends reads slack texts mark reading

  events : EventsKeep m span (is_of (length texts) mark) [] items
  events = events_stay m span (is_of (length texts) mark) [] items (no_holders (λ (h : Holder). EventsPass (is_of (length texts) mark) h.chain)) (events_of reads slack texts mark reading)

  ready : All (IsReady []) (after m span [] items)
  ready = after_is_ready m span [] items [] (subst Ascend (sym (append-nil items)) up) (no_holders (IsReady (items ++ [])))

  all_pending : All (IsPending m (length texts) mark) (after m span [] items)
  all_pending k d lt = record {
    stage_from = (after_has_stages m span [] items k d lt).0;
    stage_to = (after_has_stages m span [] items k d lt).1;
    full = after_is_full m span [] items (no_holders IsFull) k d lt;
    ascends = (ready k d lt).ascends;
    events = events.after k d lt;
  }

  all_found : All (IsFound m (length texts) mark) (matches m span [] items)
  all_found k d lt = record {
    full = matches_are_full m span [] items (no_holders IsFull) k d lt;
    ascends = matches_ascend m span [] items up (no_holders (IsReady items)) k d lt;
    events = events.matches k d lt;
  }

  all_fall : FirstsFall (after m span [] items)
  all_fall = after_falls m span [] items up (no_holders (IsReady items)) (no_holders IsFull) none_falls

alive_some : (span : Option ℤ) (t : ℤ) (o : Option (List OrderKey)) (c : List OrderKey) → alive_at span t o ≡ Some c → o ≡ Some c
alive_some span t None c e = cc
alive_some span t (Some x) c e = (when_some _ (Some x) c e).1

-- the living among those whose first events fall
alive_fall : (span : Option ℤ) (t : ℤ) (holders : List Holder) → HoldersAreInOrder holders → FirstsFall holders → FirstsFall (alive_holders span t holders)
alive_fall span t holders order falls key j k c d lt e f =
    falls key j k c d lt
    (alive_some span t (opening_of holders key j) c (sym (opening_alive span t holders order key j) ∙ e))
    (alive_some span t (opening_of holders key k) d (sym (opening_alive span t holders order key k) ∙ f))

pub pending_fits : PendingFits
pending_fits m span t reads slack texts mark reading =
    let holders : List Holder = after m span [] (below reads slack texts mark) in
    let order : HoldersAreInOrder holders = after_in_order m span [] (below reads slack texts mark) in
    record {
      all = All-filter _ (IsPending m (length texts) mark) holders (all_pending m span t reads slack texts mark reading);
      in_order = alive_in_order span t holders order;
      firsts_fall = alive_fall span t holders order (all_fall m span t reads slack texts mark reading);
    }

pub found_fits : FoundFits
found_fits m span reads slack texts mark reading = all_found m span (pos 0) reads slack texts mark reading

-- what holds of the routes of each event that is read
module _ (reads : Reads) (slack : Option ℤ) (P : List Route → Type 0)
    (passes : (shard line : ℕ) (bytes : List ℕ) (item : Item) → reads shard line bytes ≡ got.Item item → P item.routes) where
  abbrev Passing : Item → Type 0
  Passing item = P item.routes

  event_passes : (shard line at : ℕ) (bytes : List ℕ) (g : LineGot) → reads shard line bytes ≡ g → IfSome (event_at at g) Passing
  event_passes shard line at bytes (got.Item item) e = passes shard line bytes item e
  event_passes shard line at bytes got.Blank e = tt
  event_passes shard line at bytes (got.Bad reason) e = tt

  accepted_pass : (shard : ℕ) (text : List ℕ) → All Passing (accepted_items reads slack shard text)
  accepted_pass shard text =
      All-accepted Passing slack [] (readable reads shard (lines_in text))
      (All-filter_map (λ (line : Line). Unit {0}) Passing (λ (line : Line). event_at line.at (reads shard line.number line.bytes))
      (λ line u. event_passes shard line.number line.at line.bytes (reads shard line.number line.bytes) refl) (lines_in text) (λ k d lt. tt))

  all_pass : (shard : ℕ) (texts : List (List ℕ)) → All Passing (accepted_from reads slack shard texts)
  all_pass shard [] = All-nil Passing
  all_pass shard (text ∷ texts) = All-append Passing (accepted_items reads slack shard text) (accepted_from reads slack (shard + 1) texts) (accepted_pass shard text) (all_pass (shard + 1) texts)

  pub held_back_pass : (shard : ℕ) (text : List ℕ) (mark : Mark) → All (λ (item : Item). P item.routes) (held_back reads slack shard text mark)
  held_back_pass shard text mark =
      All-sorted Passing (filter (λ item. not (is_below mark item)) (accepted_items reads slack shard text))
      (All-filter (λ item. not (is_below mark item)) Passing (accepted_items reads slack shard text) (accepted_pass shard text))

  pub below_pass : (texts : List (List ℕ)) (mark : Mark) → All (λ (item : Item). P item.routes) (below reads slack texts mark)
  below_pass texts mark =
      All-sorted Passing (filter (is_below mark) (accepted_from reads slack 0 texts)) (All-filter (is_below mark) Passing (accepted_from reads slack 0 texts) (all_pass 0 texts))

pub routes_stay : RoutesStay
routes_stay reads slack test texts mark passes = record {
  held_back = λ shard text. held_back_pass reads slack (λ routes. IsTrue (test routes)) passes shard text mark;
  below = below_pass reads slack (λ routes. IsTrue (test routes)) passes texts mark;
}
