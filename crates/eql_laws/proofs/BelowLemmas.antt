-- What lies below a mark stands in order, and grows by what lies between two.
use Rattle.std.proofs.Common.{◌≡◌, ◌<◌, ◌≤◌, ℕ, suc, ◌+◌, ℤ, ◌≤ℤ◌, ◌-ℤ◌, pos, Bool, true, false, cond, List, [], ◌∷◌, ◌++◌, map, length, Option, Some, None, refl, sym, ap, ◌∙◌, subst, arith, T}
use Rattle.std.specs.Prelude.{filter, not, All, IfSome, ◌==◌}
use Rattle.std.specs.List.{cons_option}
use Rattle.std.specs.Int.Signed.{lt_z}
use Rattle.std.specs.Ordering.{is_lt, ordering_then, int_cmp}
use Rattle.std.specs.declared.cmp.Ordering.{Ordering}
use Rattle.std.specs.declared.cmp.Ordering.TheVariants.{Less, Equal, Greater}
use Rattle.std.specs.FinMap.Entries.{is_sorted, below_all}
use Rattle.std.proofs.lemmas.Int.{ints}
use Rattle.std.proofs.lemmas.Cmp.{int_ranked}
use Rattle.std.proofs.lemmas.List.Elements.{All-nil, All-cons, All-head, All-tail, All-append, All-map, All-filter, All-weaker, filter-append}
use Rattle.eql_values.specs.declared.order.OrderKey.{OrderKey}
use Rattle.eql_values.specs.declared.order.Mark.{Mark}
use Rattle.eql_values.specs.declared.order.Mark.TheVariants.{Start, At, End}
use Rattle.eql_values.specs.declared.item.Item.{Item}
use Rattle.eql_values.specs.declared.reader.LineGot.{LineGot}
use Rattle.eql_values.specs.declared.reader.LineGot.TheVariants as got
use Rattle.eql_values.specs.Accepted.{Reads, event_at, readable, is_late, accepted_items, accepted_after, accepted_from, sorted_items}
use Rattle.eql_values.specs.Ascending.{AllAreAfter, Ascend}
use Rattle.eql_values.specs.Lines.{Line, begin_with, lines_of, numbered_lines, lines_in}
use Rattle.eql_values.specs.Marks.{is_below}
use Rattle.eql_values.specs.OrderKeys.{order_cmp}
use Rattle.eql_values.specs.Totals.{order_cmp_total}
use Rattle.eql_values.proofs.Same.{order_same}
use Rattle.eql_values.specs.Ordered.{in_order}
use Rattle.eql_values.proofs.InOrder.{in_order-sorted}
use Rattle.eql_values.specs.Reading.{IsTime, IsReadAt}
use Rattle.eql_values.specs.Routes.{RoutesAreInOrder, RoutesStand}
use Rattle.eql_laws.specs.Belows.{IsReading, HasRoutesInOrder, SortedAscends, BelowAscends, BelowGrows, IsAcceptedOf, AcceptedComeFromText, IsBelow, BelowAre, OpenLowIsTime, OpenLowIsAtLeast, IsMarkTime, greatest_slack}
use Rattle.eql_laws.specs.Lateness.{IsAtMost, larger, best_of}
use Rattle.eql_laws.proofs.Lists.{filter_implied}
use Rattle.eql_laws.proofs.Elements.{All-filter_map, All-passed, All-in_order}
use Rattle.eql_laws.proofs.Facts.{left_holds, right_holds, is_less}
use Rattle.eql_laws.proofs.MarkLemmas.{below_up, times_le}
use Rattle.eql_laws.proofs.Sorting.{Entry, pair, back, bare, OfPlace, filter_sorted, sorted_more}

-- whether an item is below a mark is said by its place
of_place : (m : Mark) → OfPlace (is_below m)
of_place Start i = refl
of_place (At t) i = refl
of_place End i = refl

not_of_place : (m : Mark) → OfPlace (λ i. not (is_below m i))
not_of_place m i = ap not (of_place m i)

-- what lies below a mark, and what doesn't, may be taken before or after putting in order
pub sorted_below : (mark : Mark) (items : List Item)
    → (filter (is_below mark) (sorted_items items) ≡ sorted_items (filter (is_below mark) items))
    × (filter (λ item. not (is_below mark item)) (sorted_items items) ≡ sorted_items (filter (λ item. not (is_below mark item)) items))
sorted_below mark items = (filter_sorted (is_below mark) (of_place mark) items, filter_sorted (λ i. not (is_below mark i)) (not_of_place mark) items)

-- further items may be put in order with those that stand in order
pub sorted_with_more : (a b : List Item) → sorted_items (sorted_items a ++ b) ≡ sorted_items (a ++ b)
sorted_with_more a b = sorted_more a b

earlier_time : (t u : ℤ) (r : Ordering) → r ≡ int_cmp t u → (o : Ordering) → T (is_lt (ordering_then r o)) → t ≤ℤ u
earlier_time t u Less e o h = let k = int_ranked t u Less e in omega (arith, ints, k)
earlier_time t u Equal e o h = let k = int_ranked t u Equal e in omega (arith, ints, k)
earlier_time t u Greater e o h = absurd h

below_time : (t ts us : ℤ) → ts ≤ℤ us → lt_z ts t ≡ false → lt_z us t ≡ false
below_time t ts us h e = grind (arith, ints)

-- what comes later isn't below a mark either
later_above : (m : Mark) (k : OrderKey) (e : Entry) → T (is_lt (order_cmp k e.0)) → is_below m (bare k) ≡ false → is_below m (back e) ≡ false
later_above Start k e h above = refl
later_above (At t) k e h above = below_time t k.ts e.0.ts (earlier_time k.ts e.0.ts (int_cmp k.ts e.0.ts) refl _ h) above
later_above End k e h above = above

module _ (m : Mark) where
  none_later : (k : OrderKey) (es : List Entry) → T (below_all order_cmp k es) → is_below m (bare k) ≡ false
      → (filter (is_below m) (map back es) ≡ []) × (filter (λ i. not (is_below m i)) (map back es) ≡ map back es)
  none_later k [] h above = (refl, refl)
  none_later k (e ∷ es) h above =
      let rest = none_later k es (right_holds _ _ h) above in
      let one = later_above m k e (left_holds _ _ h) above in (
        ap (λ (b : Bool). cond b (back e ∷ filter (is_below m) (map back es)) (filter (is_below m) (map back es))) one ∙ rest.0,
        ap (λ (b : Bool). cond (not b) (back e ∷ filter (λ i. not (is_below m i)) (map back es)) (filter (λ i. not (is_below m i)) (map back es))) one
            ∙ ap (λ (l : List Item). back e ∷ l) rest.1,
      )

  split_one : (e : Entry) (es : List Entry) (b : Bool) → is_below m (back e) ≡ b → T (below_all order_cmp e.0 es)
      → map back es ≡ filter (is_below m) (map back es) ++ filter (λ i. not (is_below m i)) (map back es)
      → back e ∷ map back es ≡ cond b (back e ∷ filter (is_below m) (map back es)) (filter (is_below m) (map back es))
      ++ cond (not b) (back e ∷ filter (λ i. not (is_below m i)) (map back es)) (filter (λ i. not (is_below m i)) (map back es))
  split_one e es true is h rest = ap (λ (l : List Item). back e ∷ l) rest
  split_one e es false is h rest =
      let none = none_later e.0 es h (sym (of_place m (back e)) ∙ is) in
      sym ((λ i. none.0 i ++ back e ∷ none.1 i))

  -- items in order are those below a mark, and then the others
  split_sorted : (es : List Entry) → T (is_sorted order_cmp es) → map back es ≡ filter (is_below m) (map back es) ++ filter (λ i. not (is_below m i)) (map back es)
  split_sorted [] h = refl
  split_sorted (e ∷ es) h = split_one e es (is_below m (back e)) refl (left_holds _ _ h) (split_sorted es (right_holds _ _ h))

sorted_grows : (items : List Item) (from to : Mark) → IsAtMost from to
    → sorted_items (filter (is_below to) items) ≡ sorted_items (filter (is_below from) items) ++ sorted_items (filter (is_below to) (filter (λ i. not (is_below from i)) items))
sorted_grows items from to le =
    let s : List Item = sorted_items items in
    sym (filter_sorted (is_below to) (of_place to) items)
    ∙ ap (filter (is_below to)) (split_sorted from (in_order order_cmp (map pair items)) (in_order-sorted order_cmp order_cmp_total (map pair items)))
    ∙ filter-append (is_below to) (filter (is_below from) s) (filter (λ i. not (is_below from i)) s)
    ∙ (λ i. (filter_implied (is_below to) (is_below from) (λ item e. below_up from to item le e) s ∙ filter_sorted (is_below from) (of_place from) items) i
    ++ (ap (filter (is_below to)) (filter_sorted (λ j. not (is_below from j)) (not_of_place from) items)
    ∙ filter_sorted (is_below to) (of_place to) (filter (λ j. not (is_below from j)) items)) i)

pub below_grows : BelowGrows
below_grows reads slack texts from to le = sorted_grows (accepted_from reads slack 0 texts) from to le

-- items in order ascend
all_later : (k : OrderKey) (es : List Entry) → T (below_all order_cmp k es) → AllAreAfter k (map back es)
all_later k [] h = tt
all_later k (e ∷ es) h = (is_less (order_cmp k e.0) (left_holds _ _ h), all_later k es (right_holds _ _ h))

ascends : (es : List Entry) → T (is_sorted order_cmp es) → All (λ (e : Entry). RoutesAreInOrder e.1) es → Ascend (map back es)
ascends [] h routes = tt
ascends (e ∷ es) h routes = (
  All-head (λ (e : Entry). RoutesAreInOrder e.1) e es routes,
  all_later e.0 es (left_holds _ _ h),
  ascends es (right_holds _ _ h) (All-tail (λ (e : Entry). RoutesAreInOrder e.1) e es routes),
)

-- what holds of each item holds of each of them in order
pub All-sorted : (P : Item → Type 0) (items : List Item) → All P items → All P (sorted_items items)
All-sorted P items h =
    All-map P back (in_order order_cmp (map pair items))
    (All-in_order order_cmp order_same (λ (e : Entry). P (back e)) (map pair items) (All-map (λ (e : Entry). P (back e)) pair items h))

pub sorted_ascends : SortedAscends
sorted_ascends items h =
    ascends (in_order order_cmp (map pair items)) (in_order-sorted order_cmp order_cmp_total (map pair items))
    (All-in_order order_cmp order_same (λ (e : Entry). RoutesAreInOrder e.1) (map pair items) (All-map (λ (e : Entry). RoutesAreInOrder e.1) pair items h))

-- where a line of a text may stand
pub record IsLineOf (number at lines bytes : ℕ) (line : Line) : Type 0 where
  pub number_from : number ≤ line.number
  pub number_to : line.number < number + lines
  pub at_to : line.at < at + bytes

module _ (number at lines bytes : ℕ) where
  one_line_on : (line : Line) → IsLineOf (number + 1) (at + 0 + 1) lines bytes line → IsLineOf number at (suc lines) (suc bytes) line
  one_line_on line h = record { number_from = (let a = h.number_from in omega (arith, a)); number_to = (let a = h.number_to in omega (arith, a)); at_to = (let a = h.at_to in omega (arith, a)) }

  one_byte_on : (line : Line) → IsLineOf number (at + 1) lines bytes line → IsLineOf number at lines (suc bytes) line
  one_byte_on line h = record { number_from = h.number_from; number_to = h.number_to; at_to = (let a = h.at_to in omega (arith, a)) }

  first_line : (line : List ℕ) → IsLineOf number at (suc lines) (suc bytes) (record { number = number; at = at; bytes = line })
  first_line line = record { number_from = omega arith; number_to = omega arith; at_to = omega arith }

begun : (number at byte : ℕ) (lines : List (List ℕ)) (bytes : ℕ) → All (IsLineOf number (at + 1) (length lines) bytes) (numbered_lines number (at + 1) lines)
    → All (IsLineOf number at (length (begin_with byte lines)) (suc bytes)) (numbered_lines number at (begin_with byte lines))
begun number at byte [] bytes h =
    All-cons (IsLineOf number at 1 (suc bytes)) (record { number = number; at = at; bytes = byte ∷ [] }) [] (first_line number at 0 bytes (byte ∷ [])) (All-nil (IsLineOf number at 1 (suc bytes)))
begun number at byte (line ∷ lines) bytes h =
    All-cons (IsLineOf number at (suc (length lines)) (suc bytes)) (record { number = number; at = at; bytes = byte ∷ line }) (numbered_lines (number + 1) (at + suc (length line) + 1) lines)
    (first_line number at (length lines) bytes (byte ∷ line))
    (subst (λ (n : ℕ). All (IsLineOf number at (suc (length lines)) (suc bytes)) (numbered_lines (number + 1) n lines)) (same at (length line))
    (All-weaker (IsLineOf number (at + 1) (suc (length lines)) bytes) (IsLineOf number at (suc (length lines)) (suc bytes)) (one_byte_on number at (suc (length lines)) bytes)
    (numbered_lines (number + 1) (at + 1 + length line + 1) lines)
    (All-tail (IsLineOf number (at + 1) (suc (length lines)) bytes) (record { number = number; at = at + 1; bytes = line }) (numbered_lines (number + 1) (at + 1 + length line + 1) lines) h)))
  where
    same : (n k : ℕ) → n + 1 + k + 1 ≡ n + suc k + 1
    same n k = omega arith

by_byte : (number at byte : ℕ) (c : Bool) (lines : List (List ℕ)) (bytes : ℕ)
    → All (IsLineOf (number + 1) (at + 0 + 1) (length lines) bytes) (numbered_lines (number + 1) (at + 0 + 1) lines)
    → All (IsLineOf number (at + 1) (length lines) bytes) (numbered_lines number (at + 1) lines)
    → All (IsLineOf number at (length (cond c ([] ∷ lines) (begin_with byte lines))) (suc bytes)) (numbered_lines number at (cond c ([] ∷ lines) (begin_with byte lines)))
by_byte number at byte true lines bytes h k =
    All-cons (IsLineOf number at (suc (length lines)) (suc bytes)) (record { number = number; at = at; bytes = [] }) (numbered_lines (number + 1) (at + 0 + 1) lines)
    (first_line number at (length lines) bytes [])
    (All-weaker (IsLineOf (number + 1) (at + 0 + 1) (length lines) bytes) (IsLineOf number at (suc (length lines)) (suc bytes)) (one_line_on number at (length lines) bytes)
    (numbered_lines (number + 1) (at + 0 + 1) lines) h)
by_byte number at byte false lines bytes h k = begun number at byte lines bytes k

pub lines_stand : (number at : ℕ) (text : List ℕ) → All (IsLineOf number at (length (lines_of text)) (length text)) (numbered_lines number at (lines_of text))
lines_stand number at [] = All-nil (IsLineOf number at 0 0)
lines_stand number at (byte ∷ bytes) =
    by_byte number at byte (byte == 10) (lines_of bytes) (length bytes) (lines_stand (number + 1) (at + 0 + 1) bytes) (lines_stand number (at + 1) bytes)

module _ (reads : Reads) (shard : ℕ) (text : List ℕ) (reading : IsReading reads) where
  event_stands : (line : Line) (g : LineGot) → reads shard line.number line.bytes ≡ g → IsLineOf 1 0 (length (lines_of text)) (length text) line
      → IfSome (event_at line.at g) (IsAcceptedOf shard text)
  event_stands line (got.Item item) e h =
      let r : IsReadAt shard line.number item = reading shard line.number line.bytes item e in
      record {
        shard_is = r.shard_is;
        line_from = (let a = h.number_from in let b = r.line_is in omega (arith, a, b));
        line_to = (let a = h.number_to in let b = r.line_is in omega (arith, a, b));
        at_within = (let a = h.at_to in omega (arith, a));
        in_range = r.in_range;
        routes_stand = r.routes_stand;
      }
  event_stands line got.Blank e h = tt
  event_stands line (got.Bad reason) e h = tt

  readable_are : All (IsAcceptedOf shard text) (readable reads shard (lines_in text))
  readable_are =
      All-filter_map (IsLineOf 1 0 (length (lines_of text)) (length text)) (IsAcceptedOf shard text) (λ (line : Line). event_at line.at (reads shard line.number line.bytes))
      (λ line h. event_stands line (reads shard line.number line.bytes) refl h) (lines_in text) (lines_stand 1 0 text)

pub All-accepted : (P : Item → Type 0) (slack : Option ℤ) (earlier items : List Item) → All P items → All P (accepted_after slack earlier items)
All-accepted P slack earlier [] h = h
All-accepted P slack earlier (item ∷ items) h = one (is_late slack earlier item) (accepted_after slack (item ∷ earlier) items) (All-accepted P slack (item ∷ earlier) items (All-tail P item items h))
  where
    one : (b : Bool) (others : List Item) → All P others → All P (cond b others (item ∷ others))
    one true others rest = rest
    one false others rest = All-cons P item others (All-head P item items h) rest

pub fewer_accepted : (slack : Option ℤ) (earlier items : List Item) → length (accepted_after slack earlier items) ≤ length items
fewer_accepted slack earlier [] = omega arith
fewer_accepted slack earlier (item ∷ items) = one (is_late slack earlier item) (length items) (fewer_accepted slack (item ∷ earlier) items)
  where
    one : (b : Bool) (n : ℕ) → length (accepted_after slack (item ∷ earlier) items) ≤ n
        → length (cond b (accepted_after slack (item ∷ earlier) items) (item ∷ accepted_after slack (item ∷ earlier) items)) ≤ suc n
    one true n h = omega (arith, h)
    one false n h = omega (arith, h)

fewer_one : (o : Option Item) (items : List Item) (n : ℕ) → length items ≤ n → length (cons_option o items) ≤ suc n
fewer_one None items n h = omega (arith, h)
fewer_one (Some item) items n h = omega (arith, h)

pub fewer_readable : (reads : Reads) (shard number at : ℕ) (lines : List (List ℕ)) → length (readable reads shard (numbered_lines number at lines)) ≤ length lines
fewer_readable reads shard number at [] = omega arith
fewer_readable reads shard number at (bytes ∷ lines) =
    fewer_one (event_at at (reads shard number bytes)) (readable reads shard (numbered_lines (number + 1) (at + length bytes + 1) lines)) (length lines)
    (fewer_readable reads shard (number + 1) (at + length bytes + 1) lines)

larger_is : (t : ℤ) (o : Option ℤ) → IsTime t → IfSome o IsTime → IsTime (larger t o)
larger_is t None h k = h
larger_is t (Some u) h k = one (lt_z t u)
  where
    one : (b : Bool) → IsTime (cond b u t)
    one true = k
    one false = h

best_is_time : (items : List Item) → All (λ (item : Item). IsTime item.order.ts) items → IfSome (best_of items) IsTime
best_is_time [] h = tt
best_is_time (item ∷ items) h =
    larger_is item.order.ts (best_of items) (All-head (λ (item : Item). IsTime item.order.ts) item items h)
    (best_is_time items (All-tail (λ (item : Item). IsTime item.order.ts) item items h))

pub accepted_of_text : AcceptedComeFromText
accepted_of_text reads slack shard text reading = record {
  all = All-accepted (IsAcceptedOf shard text) slack [] (readable reads shard (lines_in text)) (readable_are reads shard text reading);
  fewer = fewer_accepted slack [] (readable reads shard (lines_in text));
  readable_fewer = fewer_readable reads shard 1 0 (lines_of text);
  best_in_range = best_is_time (readable reads shard (lines_in text))
      (All-weaker (IsAcceptedOf shard text) (λ (item : Item). IsTime item.order.ts) (λ item h. h.in_range) (readable reads shard (lines_in text)) (readable_are reads shard text reading));
}

-- an event of the texts from a shard on
record IsFrom (shard shards : ℕ) (item : Item) : Type 0 where
  shard_is : item.order.shard < shard + shards
  line_from : 1 ≤ item.order.line
  in_range : IsTime item.order.ts
  routes_stand : RoutesStand item.routes

all_from : (reads : Reads) (slack : Option ℤ) (shard : ℕ) (texts : List (List ℕ)) → IsReading reads → All (IsFrom shard (length texts)) (accepted_from reads slack shard texts)
all_from reads slack shard [] reading = All-nil (IsFrom shard 0)
all_from reads slack shard (text ∷ texts) reading =
    All-append (IsFrom shard (suc (length texts))) (accepted_items reads slack shard text) (accepted_from reads slack (shard + 1) texts)
    (All-weaker (IsAcceptedOf shard text) (IsFrom shard (suc (length texts)))
    (λ item h. record { shard_is = (let a = h.shard_is in omega (arith, a)); line_from = h.line_from; in_range = h.in_range; routes_stand = h.routes_stand })
    (accepted_items reads slack shard text) (accepted_of_text reads slack shard text reading).all)
    (All-weaker (IsFrom (shard + 1) (length texts)) (IsFrom shard (suc (length texts)))
    (λ item h. record { shard_is = (let a = h.shard_is in omega (arith, a)); line_from = h.line_from; in_range = h.in_range; routes_stand = h.routes_stand })
    (accepted_from reads slack (shard + 1) texts) (all_from reads slack (shard + 1) texts reading))

pub below_are : BelowAre
below_are reads slack texts mark reading =
    All-sorted (IsBelow (length texts) mark) (filter (is_below mark) (accepted_from reads slack 0 texts))
    (All-passed (IsFrom 0 (length texts)) (IsBelow (length texts) mark) (is_below mark)
    (λ item h below. record { shard_is = (let a = h.shard_is in omega (arith, a)); line_from = h.line_from; in_range = h.in_range; routes_stand = h.routes_stand; below = below })
    (accepted_from reads slack 0 texts) (all_from reads slack 0 texts reading))

pub routes_in_order : (reads : Reads) (slack : Option ℤ) (shard : ℕ) (texts : List (List ℕ)) → IsReading reads → All HasRoutesInOrder (accepted_from reads slack shard texts)
routes_in_order reads slack shard texts reading =
    All-weaker (IsFrom shard (length texts)) HasRoutesInOrder (λ item h. h.routes_stand.0) (accepted_from reads slack shard texts) (all_from reads slack shard texts reading)

pub below_ascends : BelowAscends
below_ascends reads slack texts mark reading =
    sorted_ascends (filter (is_below mark) (accepted_from reads slack 0 texts))
    (All-filter (is_below mark) HasRoutesInOrder (accepted_from reads slack 0 texts) (routes_in_order reads slack 0 texts reading))

low_in_range : (slack b : ℤ) → pos 0 ≤ℤ slack → slack ≤ℤ greatest_slack → IsTime b → IsMarkTime (b -ℤ slack)
low_in_range slack b from to h = let l = h.0 in let u = h.1 in (omega (arith, ints, l, u, from, to), omega (arith, ints, l, u, from, to))

abbrev time_of : Mark → ℤ
time_of (At t) = t
time_of _ = pos 0

pub open_low : OpenLowIsTime
open_low slack None t from to best e = cc
open_low slack (Some b) t from to best e =
    subst IsMarkTime (ap time_of e) (low_in_range slack b from to best)

pub open_low_at_least : OpenLowIsAtLeast
open_low_at_least None best t h = cc
open_low_at_least (Some s) None t h = cc
open_low_at_least (Some s) (Some b) t h = (s, b, refl, refl, times_le t (b -ℤ s) h)
