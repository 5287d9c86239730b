-- Items of different places: putting them in order loses none.
use Rattle.std.proofs.Common.{◌≡◌, ◌≢◌, ◌≤◌, ℕ, ◌+◌, ℤ, Bool, true, false, cond, List, [], ◌∷◌, ◌++◌, map, length, Option, Some, None, refl, sym, ap, ◌∙◌, subst, arith}
use Rattle.std.specs.Prelude.{filter, All, IfSome, IsPermutation}
use Rattle.std.specs.List.{cons_option}
use Rattle.std.specs.Ordering.{is_eq, eq_by_cmp}
use Rattle.std.specs.Cmp.{IsTotalOrder}
use Rattle.std.specs.declared.cmp.Ordering.{Ordering}
use Rattle.std.specs.declared.cmp.Ordering.TheVariants.{Less, Equal, Greater}
use Rattle.std.specs.FinMap.Entries.{put, find, by_order}
use Rattle.std.proofs.lemmas.List.Sorted.{IsPermutation-refl, IsPermutation-trans, IsPermutation-cons, IsPermutation-middle, IsPermutation-map}
use Rattle.std.proofs.lemmas.List.Elements.{All-nil, All-cons, All-head, All-tail, All-append, All-weaker, All-filter}
use Rattle.eql_values.specs.declared.order.OrderKey.{OrderKey}
use Rattle.eql_values.specs.declared.item.Item.{Item}
use Rattle.eql_values.specs.declared.reader.LineGot.{LineGot}
use Rattle.eql_values.specs.declared.reader.LineGot.TheVariants as got
use Rattle.eql_values.specs.Accepted.{Reads, event_at, readable, is_late, accepted_items, accepted_after, accepted_from, sorted_items}
use Rattle.eql_values.specs.Lines.{lines_of, numbered_lines, lines_in}
use Rattle.eql_values.specs.Marks.{is_below}
use Rattle.eql_values.specs.OrderKeys.{order_cmp}
use Rattle.eql_values.specs.Totals.{order_cmp_total}
use Rattle.eql_values.proofs.Same.{order_same}
use Rattle.eql_values.specs.Ordered.{in_order}
use Rattle.eql_values.proofs.InOrder.{find-in_order}
use Rattle.eql_laws.specs.Belows.{IsReading, IsAcceptedOf}
use Rattle.eql_laws.specs.Cuts.{PlacesDiffer, SortedKeepsAll, BelowKeepsAll}
use Rattle.eql_laws.proofs.Lists.{map_back}
use Rattle.eql_laws.proofs.Facts.{is_equal}
use Rattle.eql_laws.proofs.Sorting.{pair, back}
use Rattle.eql_laws.proofs.BelowLemmas.{accepted_of_text, All-accepted}

module _ {K X : Type 0} (R : K → K → Ordering) (total : IsTotalOrder R) where
  -- a new key is put among the others
  put_keeps : (k : K) (v : X) (es : List (K × X)) → find R k es ≡ None → IsPermutation ((k, v) ∷ es) (put R k v es)
  put_keeps k v [] none = IsPermutation-refl ((k, v) ∷ [])
  put_keeps k v (e ∷ es) none = by_case (R k e.0) refl (λ (rest : find R k es ≡ None). put_keeps k v es rest)
    where
      by_case : (o : Ordering) → R k e.0 ≡ o → (find R k es ≡ None → IsPermutation ((k, v) ∷ es) (put R k v es))
          → IsPermutation ((k, v) ∷ e ∷ es) (by_order o ((k, v) ∷ e ∷ es) ((e.0, v) ∷ es) (e ∷ put R k v es))
      by_case Less q rest = IsPermutation-refl ((k, v) ∷ e ∷ es)
      by_case Equal q rest =
          let found : Some e.1 ≡ None = sym (ap (λ (o : Ordering). cond (is_eq o) (Some e.1) (find R k es)) q) ∙ none in cc
      by_case Greater q rest =
          IsPermutation-trans ((k, v) ∷ e ∷ es) (e ∷ (k, v) ∷ es) (e ∷ put R k v es)
          (IsPermutation-middle ((k, v) ∷ []) e es)
          (IsPermutation-cons e ((k, v) ∷ es) (put R k v es) (rest (sym (ap (λ (o : Ordering). cond (is_eq o) (Some e.1) (find R k es)) q) ∙ none)))

  -- keys that differ
  abbrev KeysDiffer : List (K × X) → Type 0
  KeysDiffer [] = Unit {0}
  KeysDiffer (e ∷ es) = (find R e.0 es ≡ None) × KeysDiffer es

  in_order_keeps : (es : List (K × X)) → KeysDiffer es → IsPermutation es (in_order R es)
  in_order_keeps [] differ = IsPermutation-refl []
  in_order_keeps (e ∷ es) differ =
      IsPermutation-trans (e ∷ es) (e ∷ in_order R es) (put R e.0 e.1 (in_order R es))
      (IsPermutation-cons e es (in_order R es) (in_order_keeps es differ.1))
      (put_keeps e.0 e.1 (in_order R es) (find-in_order R total e.0 es ∙ differ.0))

not_there : (order : OrderKey) (items : List Item) → All (λ (other : Item). order ≢ other.order) items → find order_cmp order (map pair items) ≡ None
not_there order [] h = refl
not_there order (item ∷ items) h =
    one (eq_by_cmp order_cmp order item.order) refl (not_there order items (All-tail (λ (other : Item). order ≢ other.order) item items h))
  where
    one : (b : Bool) → eq_by_cmp order_cmp order item.order ≡ b → find order_cmp order (map pair items) ≡ None
        → cond b (Some item.routes) (find order_cmp order (map pair items)) ≡ None
    one true e rest = absurd (All-head (λ (other : Item). order ≢ other.order) item items h (order_same order item.order (is_equal (order_cmp order item.order) e)))
    one false e rest = rest

places_differ : (items : List Item) → PlacesDiffer items → KeysDiffer order_cmp order_cmp_total (map pair items)
places_differ [] differ = tt
places_differ (item ∷ items) differ = (not_there item.order items differ.0, places_differ items differ.1)

pub sorted_keeps_all : SortedKeepsAll
sorted_keeps_all items differ =
    subst (λ (l : List Item). IsPermutation l (sorted_items items)) (map_back back pair (λ item. refl) items)
    (IsPermutation-map back (map pair items) (in_order order_cmp (map pair items)) (in_order_keeps order_cmp order_cmp_total (map pair items) (places_differ items differ)))

-- lists of different places
differ_append : (xs ys : List Item) → PlacesDiffer xs → PlacesDiffer ys → All (λ (x : Item). All (λ (y : Item). x.order ≢ y.order) ys) xs → PlacesDiffer (xs ++ ys)
differ_append [] ys a b apart = b
differ_append (x ∷ xs) ys a b apart = (
  All-append (λ (other : Item). x.order ≢ other.order) xs ys a.0 (All-head (λ (x : Item). All (λ (y : Item). x.order ≢ y.order) ys) x xs apart),
  differ_append xs ys a.1 b (All-tail (λ (x : Item). All (λ (y : Item). x.order ≢ y.order) ys) x xs apart),
)

differ_filter : (p : Item → Bool) (items : List Item) → PlacesDiffer items → PlacesDiffer (filter p items)
differ_filter p [] differ = tt
differ_filter p (item ∷ items) differ = one (p item) (differ_filter p items differ.1)
  where
    one : (b : Bool) → PlacesDiffer (filter p items) → PlacesDiffer (cond b (item ∷ filter p items) (filter p items))
    one true rest = (All-filter p (λ (other : Item). item.order ≢ other.order) items differ.0, rest)
    one false rest = rest

differ_accepted : (slack : Option ℤ) (earlier items : List Item) → PlacesDiffer items → PlacesDiffer (accepted_after slack earlier items)
differ_accepted slack earlier [] differ = tt
differ_accepted slack earlier (item ∷ items) differ =
    one (is_late slack earlier item) (accepted_after slack (item ∷ earlier) items) (differ_accepted slack (item ∷ earlier) items differ.1)
    (All-accepted (λ (other : Item). item.order ≢ other.order) slack (item ∷ earlier) items differ.0)
  where
    one : (b : Bool) (others : List Item) → PlacesDiffer others → All (λ (other : Item). item.order ≢ other.order) others → PlacesDiffer (cond b others (item ∷ others))
    one true others rest apart = rest
    one false others rest apart = (apart, rest)

module _ (reads : Reads) (shard : ℕ) (reading : IsReading reads) where
  -- an item of this line or a later one
  abbrev FromLine : ℕ → Item → Type 0
  FromLine number item = number ≤ item.order.line

  -- at a line: the item that it gives has the line
  line_is : (number at : ℕ) (bytes : List ℕ) (g : LineGot) → reads shard number bytes ≡ g → IfSome (event_at at g) (λ (item : Item). item.order.line ≡ number)
  line_is number at bytes (got.Item item) e = (reading shard number bytes item e).line_is
  line_is number at bytes got.Blank e = tt
  line_is number at bytes (got.Bad reason) e = tt

  from_option : (number : ℕ) (o : Option Item) (items : List Item) → IfSome o (λ (item : Item). item.order.line ≡ number) → All (FromLine (number + 1)) items → All (FromLine number) (cons_option o items)
  from_option number None items is rest = All-weaker (FromLine (number + 1)) (FromLine number) (λ item h. omega (arith, h)) items rest
  from_option number (Some item) items is rest =
      All-cons (FromLine number) item items (omega (arith, is)) (All-weaker (FromLine (number + 1)) (FromLine number) (λ item h. omega (arith, h)) items rest)

  from_lines : (number at : ℕ) (lines : List (List ℕ)) → All (FromLine number) (readable reads shard (numbered_lines number at lines))
  from_lines number at [] = All-nil (FromLine number)
  from_lines number at (bytes ∷ lines) =
      from_option number (event_at at (reads shard number bytes)) (readable reads shard (numbered_lines (number + 1) (at + length bytes + 1) lines))
      (line_is number at bytes (reads shard number bytes) refl) (from_lines (number + 1) (at + length bytes + 1) lines)

  apart_by_line : (number : ℕ) (item : Item) → item.order.line ≡ number → (other : Item) → FromLine (number + 1) other → item.order ≢ other.order
  apart_by_line number item is other from same =
      let lines : item.order.line ≡ other.order.line = ap (λ (k : OrderKey). k.line) same in omega (arith, is, from, lines)

  differ_option : (number : ℕ) (o : Option Item) (items : List Item) → IfSome o (λ (item : Item). item.order.line ≡ number) → All (FromLine (number + 1)) items → PlacesDiffer items
      → PlacesDiffer (cons_option o items)
  differ_option number None items is from rest = rest
  differ_option number (Some item) items is from rest =
      (All-weaker (FromLine (number + 1)) (λ (other : Item). item.order ≢ other.order) (apart_by_line number item is) items from, rest)

  lines_differ : (number at : ℕ) (lines : List (List ℕ)) → PlacesDiffer (readable reads shard (numbered_lines number at lines))
  lines_differ number at [] = tt
  lines_differ number at (bytes ∷ lines) =
      differ_option number (event_at at (reads shard number bytes)) (readable reads shard (numbered_lines (number + 1) (at + length bytes + 1) lines))
      (line_is number at bytes (reads shard number bytes) refl) (from_lines (number + 1) (at + length bytes + 1) lines) (lines_differ (number + 1) (at + length bytes + 1) lines)

-- the accepted events of one text stand at different places
pub accepted_differ : (reads : Reads) (slack : Option ℤ) (shard : ℕ) (text : List ℕ) → IsReading reads → PlacesDiffer (accepted_items reads slack shard text)
accepted_differ reads slack shard text reading = differ_accepted slack [] (readable reads shard (lines_in text)) (lines_differ reads shard reading 1 0 (lines_of text))

-- an event of this shard or a later one
abbrev FromShard : ℕ → Item → Type 0
FromShard shard item = shard ≤ item.order.shard

from_shards : (reads : Reads) (slack : Option ℤ) (shard : ℕ) (texts : List (List ℕ)) → IsReading reads → All (FromShard shard) (accepted_from reads slack shard texts)
from_shards reads slack shard [] reading = All-nil (FromShard shard)
from_shards reads slack shard (text ∷ texts) reading =
    All-append (FromShard shard) (accepted_items reads slack shard text) (accepted_from reads slack (shard + 1) texts)
    (All-weaker (IsAcceptedOf shard text) (FromShard shard) (λ item h. let e = h.shard_is in omega (arith, e)) (accepted_items reads slack shard text) (accepted_of_text reads slack shard text reading).all)
    (All-weaker (FromShard (shard + 1)) (FromShard shard) (λ item h. omega (arith, h)) (accepted_from reads slack (shard + 1) texts) (from_shards reads slack (shard + 1) texts reading))

apart_by_shard : (shard : ℕ) (item other : Item) → item.order.shard ≡ shard → FromShard (shard + 1) other → item.order ≢ other.order
apart_by_shard shard item other is from same =
    let shards : item.order.shard ≡ other.order.shard = ap (λ (k : OrderKey). k.shard) same in omega (arith, is, from, shards)

shards_differ : (reads : Reads) (slack : Option ℤ) (shard : ℕ) (texts : List (List ℕ)) → IsReading reads → PlacesDiffer (accepted_from reads slack shard texts)
shards_differ reads slack shard [] reading = tt
shards_differ reads slack shard (text ∷ texts) reading =
    differ_append (accepted_items reads slack shard text) (accepted_from reads slack (shard + 1) texts)
    (accepted_differ reads slack shard text reading) (shards_differ reads slack (shard + 1) texts reading)
    (All-weaker (IsAcceptedOf shard text) (λ (x : Item). All (λ (y : Item). x.order ≢ y.order) (accepted_from reads slack (shard + 1) texts))
    (λ x h. All-weaker (FromShard (shard + 1)) (λ (y : Item). x.order ≢ y.order) (λ y from. apart_by_shard shard x y h.shard_is from)
    (accepted_from reads slack (shard + 1) texts) (from_shards reads slack (shard + 1) texts reading))
    (accepted_items reads slack shard text) (accepted_of_text reads slack shard text reading).all)

pub below_keeps_all : BelowKeepsAll
below_keeps_all reads slack texts mark reading = (
  shards_differ reads slack 0 texts reading,
  sorted_keeps_all (filter (is_below mark) (accepted_from reads slack 0 texts)) (differ_filter (is_below mark) (accepted_from reads slack 0 texts) (shards_differ reads slack 0 texts reading)),
)
