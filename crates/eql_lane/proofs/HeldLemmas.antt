-- Held events: a run and others, seen as the events in order.
use Rattle.std.proofs.Common.{◌≡◌, ◌≢◌, ℕ, zero, suc, ◌+◌, ◌<◌, ◌≤◌, Bool, true, false, cond, List, [], ◌∷◌, ◌++◌, length, map, take, drop, get_or, Option, Some, None, Result, Ok, Err, refl, sym, ap, ◌∙◌, subst, arith, length-append, T}
use Rattle.std.specs.Prelude.{IsTrue, not, IsSome, is_some, OnOk, OnErr, MatchOption, All, filter}
use Rattle.std.specs.Option.{option_to_list}
use Rattle.std.specs.List.{AllWithin, slice_get}
use Rattle.std.specs.List.Sorted.{IsPartitionedBy}
use Rattle.std.specs.Cmp.{tied_itself}
use Rattle.std.specs.Map.{keys_of}
use Rattle.std.specs.Ordering.{is_lt, ordering_reverse, eq_by_cmp}
use Rattle.std.specs.declared.cmp.Ordering.{Ordering}
use Rattle.std.specs.declared.cmp.Ordering.TheVariants.{Less, Equal, Greater}
use Rattle.std.specs.BTreeMap.{insert_entry}
use Rattle.std.specs.FinMap.Entries.{put, below_all, is_sorted, by_order, find, find-put}
use Rattle.std.proofs.lemmas.Map.Views.{All-keys-insert_entry}
use Rattle.std.proofs.lemmas.List.{append-nil, take-map, drop-map, drop-drop}
use Rattle.std.proofs.Math.Seq.{take-add}
use Rattle.std.proofs.lemmas.List.Elements.{All-nil, All-cons, All-head, All-tail, All-append, All-weaker, All-push, filter-append, filter_agree}
use Rattle.std.proofs.lemmas.List.Sorted.{All-permutation, sum_by-IsPermutation, IsPermutation-sym}
use Rattle.std.proofs.lemmas.List.Sums.{length-filter}
use Rattle.eql_values.specs.declared.order.OrderKey.{OrderKey}
use Rattle.eql_values.specs.declared.order.Mark.{Mark}
use Rattle.eql_values.specs.declared.item.Route.{Route}
use Rattle.eql_values.specs.declared.item.Item.{Item}
use Rattle.eql_values.specs.Accepted.{sorted_items}
use Rattle.eql_values.specs.Marks.{is_below}
use Rattle.eql_values.specs.OrderKeys.{order_cmp}
use Rattle.eql_values.specs.Totals.{order_cmp_total}
use Rattle.eql_values.proofs.Same.{order_same}
use Rattle.eql_values.specs.Ordered.{in_order, found_or}
use Rattle.eql_laws.specs.Cuts.{PlacesDiffer}
use Rattle.eql_laws.proofs.BelowLemmas.{All-sorted}
use Rattle.eql_laws.proofs.Distinct.{sorted_keeps_all}
use Rattle.eql_laws.proofs.Facts.{both_true, true_both, is_less, is_equal, holds_true}
use Rattle.eql_values.proofs.InOrder.{in_order-sorted}
use Rattle.eql_values.specs.Ascending.{Ascend}
use Rattle.eql_lane.proofs.Starting.{sorted_pairs}
use Rattle.eql_laws.proofs.Lists.{map_back}
use Rattle.eql_laws.proofs.Sorting.{pair, back, bare, sorted_alike, sorted_more, find_more}
use Rattle.eql_lane.specs.Holding.{Entries, items_in, LinesAreBelow, held_in, IsHeld, AreApart, is_run_first}
use Rattle.eql_lane.proofs.StoreLemmas.{taken_out, sorted_again, none_there, one_more, insert_is_put, insert_keeps_order, by_order_below, of_place}

abbrev Comes : OrderKey → Item → Type 0
Comes key item = order_cmp key item.order ≡ Less

true_there : (b : Bool) → b ≡ true → T b
true_there b h = subst T (sym h) tt

-- ---- the first event of all
-- before a list that begins with a later one
put_first : (k : OrderKey) (v : List Route) (es : Entries) → All (λ (i : Item). order_cmp k i.order ≡ Less) (map back es) → put order_cmp k v es ≡ (k, v) ∷ es
put_first k v [] later = refl
put_first k v (e ∷ es) later = ap (λ (o : Ordering). by_order o ((k, v) ∷ e ∷ es) ((e.0, v) ∷ es) (e ∷ put order_cmp k v es)) (All-head (Comes k) (back e) (map back es) later)

put_behind : (k : OrderKey) (v : List Route) (e : OrderKey × List Route) (es : Entries) → order_cmp e.0 k ≡ Less → put order_cmp k v (e ∷ es) ≡ e ∷ put order_cmp k v es
put_behind k v e es less =
    ap (λ (o : Ordering). by_order o ((k, v) ∷ e ∷ es) ((e.0, v) ∷ es) (e ∷ put order_cmp k v es)) (order_cmp_total.antisymm k e.0 ∙ ap ordering_reverse less)

order_first : (a : List Item) (y : Item) (b : List Item) → All (Comes y.order) (a ++ b)
    → in_order order_cmp (map pair (a ++ y ∷ b)) ≡ pair y ∷ in_order order_cmp (map pair (a ++ b))
order_first [] y b later = put_first y.order y.routes (in_order order_cmp (map pair b)) (All-sorted (Comes y.order) b later)
order_first (x ∷ a) y b later =
    ap (put order_cmp x.order x.routes) (order_first a y b (All-tail (Comes y.order) x (a ++ b) later))
    ∙ put_behind x.order x.routes (pair y) (in_order order_cmp (map pair (a ++ b))) (All-head (Comes y.order) x (a ++ b) later)

pub first_out : (a : List Item) (y : Item) (b : List Item) → All (Comes y.order) (a ++ b) → sorted_items (a ++ y ∷ b) ≡ y ∷ sorted_items (a ++ b)
first_out a y b later = ap (map back) (order_first a y b later)

-- what stands behind the first of a list that ascends
run_later : (key : OrderKey) (run : List Item) → IsTrue (below_all order_cmp key (map pair run)) → All (Comes key) run
run_later key [] h = All-nil (Comes key)
run_later key (x ∷ run) h = let both = both_true _ _ h in All-cons (Comes key) x run (is_less (order_cmp key x.order) (true_there _ both.0)) (run_later key run both.1)

others_later : (key : OrderKey) (es : Entries) → IsTrue (below_all order_cmp key es) → All (Comes key) (items_in es)
others_later key [] h = All-nil (Comes key)
others_later key (e ∷ es) h = let both = both_true _ _ h in All-cons (Comes key) (back e) (items_in es) (is_less (order_cmp key e.0) (true_there _ both.0)) (others_later key es both.1)

less_trans : (a b c : OrderKey) → order_cmp a b ≡ Less → order_cmp b c ≡ Less → order_cmp a c ≡ Less
less_trans a b c ab bc = order_cmp_total.trans a b c ab bc

pub later_on : (a b : OrderKey) (items : List Item) → order_cmp a b ≡ Less → All (Comes b) items → All (Comes a) items
later_on a b items less later = All-weaker (Comes b) (Comes a) (λ i l. less_trans a b i.order less l) items later

-- ---- no two at one place
less_apart : (a b : OrderKey) → order_cmp a b ≡ Less → a ≢ b
less_apart a b less e = let tied : order_cmp a b ≡ Equal = ap (order_cmp a) (sym e) ∙ tied_itself order_cmp_total a in cc

apart_from : (key : OrderKey) (es : Entries) → All (λ (k : OrderKey). order_cmp key k ≡ Equal → ⊥) (keys_of es) → All (λ (i : Item). key ≢ i.order) (items_in es)
apart_from key [] apart = All-nil (λ (i : Item). key ≢ i.order)
apart_from key (e ∷ es) apart =
    All-cons (λ (i : Item). key ≢ i.order) (back e) (items_in es)
    (λ same. All-head (λ (k : OrderKey). order_cmp key k ≡ Equal → ⊥) e.0 (keys_of es) apart (ap (order_cmp key) (sym same) ∙ tied_itself order_cmp_total key))
    (apart_from key es (All-tail (λ (k : OrderKey). order_cmp key k ≡ Equal → ⊥) e.0 (keys_of es) apart))

others_differ : (es : Entries) → IsTrue (is_sorted order_cmp es) → PlacesDiffer (items_in es)
others_differ [] h = tt
others_differ (e ∷ es) h =
    let both = both_true _ _ h in
    (All-weaker (Comes e.0) (λ (i : Item). e.0 ≢ i.order) (λ i l. less_apart e.0 i.order l) (items_in es) (others_later e.0 es both.0), others_differ es both.1)

pub all_differ : (run : List Item) (others : Entries) → IsHeld run others → PlacesDiffer (run ++ items_in others)
all_differ [] others is = others_differ others is.others_order
all_differ (x ∷ run) others is =
    let both = both_true _ _ is.run_order in (
      All-append (λ (i : Item). x.order ≢ i.order) run (items_in others) (All-weaker (Comes x.order) (λ (i : Item). x.order ≢ i.order) (λ i l. less_apart x.order i.order l) run (run_later x.order run both.0))
          (apart_from x.order others (All-head (λ (i : Item). All (λ (k : OrderKey). order_cmp i.order k ≡ Equal → ⊥) (keys_of others)) x run is.apart)),
      all_differ run others (record { run_order = both.1; others_order = is.others_order; apart = All-tail (λ (i : Item). All (λ (k : OrderKey). order_cmp i.order k ≡ Equal → ⊥) (keys_of others)) x run is.apart }),
    )

-- what holds of the events in order holds of each
pub all_each : (P : Item → Type 0) (run : List Item) (others : Entries) → IsHeld run others → All P (held_in run others) → All P (run ++ items_in others)
all_each P run others is all =
    All-permutation P (held_in run others) (run ++ items_in others) (IsPermutation-sym (run ++ items_in others) (held_in run others) (sorted_keeps_all (run ++ items_in others) (all_differ run others is))) all

all_run : (P : Item → Type 0) (run : List Item) (more : List Item) → All P (run ++ more) → All P run
all_run P [] more all = All-nil P
all_run P (x ∷ run) more all = All-cons P x run (All-head P x (run ++ more) all) (all_run P run more (All-tail P x (run ++ more) all))

all_more : (P : Item → Type 0) (run : List Item) (more : List Item) → All P (run ++ more) → All P more
all_more P [] more all = all
all_more P (x ∷ run) more all = all_more P run more (All-tail P x (run ++ more) all)

lines_of_others : (n : ℕ) (es : Entries) → All (λ (i : Item). i.order.line < n) (items_in es) → LinesAreBelow n es
lines_of_others n [] all = All-nil (λ (k : OrderKey). k.line < n)
lines_of_others n (e ∷ es) all = All-cons (λ (k : OrderKey). k.line < n) e.0 (keys_of es) (All-head (λ (i : Item). i.order.line < n) (back e) (items_in es) all) (lines_of_others n es (All-tail (λ (i : Item). i.order.line < n) (back e) (items_in es) all))

-- ---- one more
swap_or : (a b : Option (List Route)) (v : List Route) (c : Bool) → (c ≡ true → b ≡ None) → found_or (found_or a (cond c (Some v) None)) b ≡ found_or (found_or a b) (cond c (Some v) None)
swap_or (Some x) b v c none = refl
swap_or None b v true none = sym (ap (λ (o : Option (List Route)). found_or o (Some v)) (none refl))
swap_or None None v false none = refl
swap_or None (Some x) v false none = refl

joined_or : (a b c : Option (List Route)) → found_or (found_or a b) c ≡ found_or a (found_or b c)
joined_or (Some x) b c = refl
joined_or None b c = refl

bare_entries : (es : Entries) → map pair (items_in es) ≡ es
bare_entries es = map_back pair back (λ e. refl) es

-- the place of a new line is none of a lesser line
new_place : (item : Item) (es : Entries) → LinesAreBelow item.order.line es → (q : OrderKey) → eq_by_cmp order_cmp q item.order ≡ true → find order_cmp q es ≡ None
new_place item es below q same =
    none_there item.order.line q es (let e : q.line ≡ item.order.line = ap (λ (k : OrderKey). k.line) (order_same q item.order (is_equal _ same)) in omega (arith, e)) below

module _ (run : List Item) (others : Entries) (item : Item) (is : IsHeld run others) (lines : All (λ (i : Item). i.order.line < item.order.line) (held_in run others)) where
  each : All (λ (i : Item). i.order.line < item.order.line) (run ++ items_in others)
  each = all_each (λ (i : Item). i.order.line < item.order.line) run others is lines

  below : LinesAreBelow item.order.line others
  below = lines_of_others item.order.line others (all_more (λ (i : Item). i.order.line < item.order.line) run (items_in others) each)

  abbrev look : OrderKey → List Item → Option (List Route)
  look q items = find order_cmp q (map pair items)

  none_of_others : (q : OrderKey) → eq_by_cmp order_cmp q item.order ≡ true → look q (items_in others) ≡ None
  none_of_others q same = ap (find order_cmp q) (bare_entries others) ∙ new_place item others below q same

  pub run_more : held_in (run ++ item ∷ []) others ≡ sorted_items (held_in run others ++ item ∷ [])
  run_more =
      sorted_alike ((run ++ item ∷ []) ++ items_in others) ((run ++ items_in others) ++ item ∷ [])
      (λ q. find_more q (run ++ item ∷ []) (items_in others) ∙ ap (λ (o : Option (List Route)). found_or o (look q (items_in others))) (find_more q run (item ∷ []))
      ∙ swap_or (look q run) (look q (items_in others)) item.routes (eq_by_cmp order_cmp q item.order) (none_of_others q)
      ∙ sym (find_more q (run ++ items_in others) (item ∷ []) ∙ ap (λ (o : Option (List Route)). found_or o (look q (item ∷ []))) (find_more q run (items_in others))))
      ∙ sym (sorted_more (run ++ items_in others) (item ∷ []))

  pub others_more : held_in run (insert_entry order_cmp others item.order item.routes) ≡ sorted_items (held_in run others ++ item ∷ [])
  others_more =
      sorted_alike (run ++ items_in (insert_entry order_cmp others item.order item.routes)) ((run ++ items_in others) ++ item ∷ [])
      (λ q. find_more q run (items_in (insert_entry order_cmp others item.order item.routes))
      ∙ ap (found_or (look q run)) (ap (find order_cmp q) (bare_entries (insert_entry order_cmp others item.order item.routes) ∙ insert_is_put item.order item.routes others)
      ∙ find-put order_cmp order_cmp_total q item.order item.routes others ∙ one_more (eq_by_cmp order_cmp q item.order) item.routes (find order_cmp q others) (new_place item others below q)
      ∙ ap (λ (o : Option (List Route)). found_or o (look q (item ∷ []))) (sym (ap (find order_cmp q) (bare_entries others))))
      ∙ sym (joined_or (look q run) (look q (items_in others)) (look q (item ∷ [])))
      ∙ sym (find_more q (run ++ items_in others) (item ∷ []) ∙ ap (λ (o : Option (List Route)). found_or o (look q (item ∷ []))) (find_more q run (items_in others))))
      ∙ sym (sorted_more (run ++ items_in others) (item ∷ []))

  not_at : (k : OrderKey) → k.line < item.order.line → order_cmp item.order k ≡ Equal → ⊥
  not_at k lt same = let e : item.order.line ≡ k.line = ap (λ (o : OrderKey). o.line) (order_same item.order k same) in omega (arith, e, lt)

  not_at_either : (k : OrderKey) → k.line < item.order.line → order_cmp k item.order ≡ Equal → ⊥
  not_at_either k lt same = let e : k.line ≡ item.order.line = ap (λ (o : OrderKey). o.line) (order_same k item.order same) in omega (arith, e, lt)

  run_sorted : (xs : List Item) → IsTrue (is_sorted order_cmp (map pair xs)) → All (λ (x : Item). IsTrue (is_lt (order_cmp x.order item.order))) xs → IsTrue (is_sorted order_cmp (map pair (xs ++ item ∷ [])))
  run_sorted [] h last = refl
  run_sorted (x ∷ xs) h last =
      let both = both_true _ _ h in
      true_both _ _ (below_on x.order xs both.0 (All-head (λ (y : Item). IsTrue (is_lt (order_cmp y.order item.order))) x xs last)) (run_sorted xs both.1 (All-tail (λ (y : Item). IsTrue (is_lt (order_cmp y.order item.order))) x xs last))
    where
      below_on : (k : OrderKey) (ys : List Item) → IsTrue (below_all order_cmp k (map pair ys)) → IsTrue (is_lt (order_cmp k item.order)) → IsTrue (below_all order_cmp k (map pair (ys ++ item ∷ [])))
      below_on k [] h l = true_both _ _ l refl
      below_on k (y ∷ ys) h l = let both = both_true _ _ h in true_both _ _ both.0 (below_on k ys both.1 l)

  pub run_more_held : All (λ (x : Item). IsTrue (is_lt (order_cmp x.order item.order))) run → IsHeld (run ++ item ∷ []) others
  run_more_held last = record {
    run_order = run_sorted run is.run_order last;
    others_order = is.others_order;
    apart = All-push (λ (i : Item). All (λ (k : OrderKey). order_cmp i.order k ≡ Equal → ⊥) (keys_of others)) run item is.apart
        (All-weaker (λ (k : OrderKey). k.line < item.order.line) (λ (k : OrderKey). order_cmp item.order k ≡ Equal → ⊥) not_at (keys_of others) below);
  }

  apart_more : (xs : List Item) → AreApart xs others → All (λ (i : Item). i.order.line < item.order.line) xs → AreApart xs (insert_entry order_cmp others item.order item.routes)
  apart_more [] apart l = All-nil (λ (i : Item). All (λ (k : OrderKey). order_cmp i.order k ≡ Equal → ⊥) (keys_of (insert_entry order_cmp others item.order item.routes)))
  apart_more (x ∷ xs) apart l =
      All-cons (λ (i : Item). All (λ (k : OrderKey). order_cmp i.order k ≡ Equal → ⊥) (keys_of (insert_entry order_cmp others item.order item.routes))) x xs
      (All-keys-insert_entry order_cmp item.order item.routes (λ (k : OrderKey). order_cmp x.order k ≡ Equal → ⊥) others (All-head (λ (i : Item). All (λ (k : OrderKey). order_cmp i.order k ≡ Equal → ⊥) (keys_of others)) x xs apart)
      (not_at_either x.order (All-head (λ (i : Item). i.order.line < item.order.line) x xs l)))
      (apart_more xs (All-tail (λ (i : Item). All (λ (k : OrderKey). order_cmp i.order k ≡ Equal → ⊥) (keys_of others)) x xs apart) (All-tail (λ (i : Item). i.order.line < item.order.line) x xs l))

  pub others_more_held : IsHeld run (insert_entry order_cmp others item.order item.routes)
  others_more_held = record {
    run_order = is.run_order;
    others_order = insert_keeps_order item.order item.routes others is.others_order;
    apart = apart_more run is.apart (all_run (λ (i : Item). i.order.line < item.order.line) run (items_in others) each);
  }

-- ---- the first one out
abbrev Apart : Entries → Item → Type 0
Apart others item = All (λ (k : OrderKey). order_cmp item.order k ≡ Equal → ⊥) (keys_of others)

pub run_out : (x : Item) (run : List Item) (others : Entries) → IsHeld (x ∷ run) others → is_run_first (x ∷ run) others ≡ true → held_in (x ∷ run) others ≡ x ∷ held_in run others
run_out x run [] is first = first_out [] x (run ++ []) (All-append (Comes x.order) run [] (run_later x.order run (both_true _ _ is.run_order).0) (All-nil (Comes x.order)))
run_out x run (e ∷ es) is first =
    let less = is_less (order_cmp x.order e.0) (true_there _ first) in
    first_out [] x (run ++ items_in (e ∷ es)) (All-append (Comes x.order) run (items_in (e ∷ es)) (run_later x.order run (both_true _ _ is.run_order).0)
    (All-cons (Comes x.order) (back e) (items_in es) less (later_on x.order e.0 (items_in es) less (others_later e.0 es (both_true _ _ is.others_order).0))))

pub run_left : (x : Item) (run : List Item) (others : Entries) → IsHeld (x ∷ run) others → IsHeld run others
run_left x run others is = record { run_order = (both_true _ _ is.run_order).1; others_order = is.others_order; apart = All-tail (Apart others) x run is.apart }

greater_is : (o : Ordering) → is_lt o ≡ false → (o ≡ Equal → ⊥) → o ≡ Greater
greater_is Less h n = cc
greater_is Equal h n = absurd (n refl)
greater_is Greater h n = refl

pub others_out : (run : List Item) (e : OrderKey × List Route) (es : Entries) → IsHeld run (e ∷ es) → is_run_first run (e ∷ es) ≡ false → held_in run (e ∷ es) ≡ back e ∷ held_in run es
others_out [] e es is first = first_out [] (back e) (items_in es) (others_later e.0 es (both_true _ _ is.others_order).0)
others_out (x ∷ run) e es is first =
    let greater : order_cmp x.order e.0 ≡ Greater = greater_is (order_cmp x.order e.0) first (All-head (λ (k : OrderKey). order_cmp x.order k ≡ Equal → ⊥) e.0 (keys_of es) (All-head (Apart (e ∷ es)) x run is.apart)) in
    let less : order_cmp e.0 x.order ≡ Less = order_cmp_total.antisymm e.0 x.order ∙ ap ordering_reverse greater in
    first_out (x ∷ run) (back e) (items_in es)
    (All-append (Comes e.0) (x ∷ run) (items_in es) (All-cons (Comes e.0) x run less (later_on e.0 x.order run less (run_later x.order run (both_true _ _ is.run_order).0))) (others_later e.0 es (both_true _ _ is.others_order).0))

pub others_left : (run : List Item) (e : OrderKey × List Route) (es : Entries) → IsHeld run (e ∷ es) → IsHeld run es
others_left run e es is = record {
  run_order = is.run_order;
  others_order = (both_true _ _ is.others_order).1;
  apart = All-weaker (Apart (e ∷ es)) (Apart es) (λ i a. All-tail (λ (k : OrderKey). order_cmp i.order k ≡ Equal → ⊥) e.0 (keys_of es) a) run is.apart;
}

-- ---- how many are below a mark
pub part_count : (p : Item → Bool) (xs : List Item) (i : ℕ) → AllWithin (λ (y : Item). p y ≡ true) xs 0 i → AllWithin (λ (y : Item). p y ≡ false) xs i (length xs) → i ≤ length xs → i ≡ length (filter p xs)
part_count p [] i low high le = omega (arith, le)
part_count p (x ∷ xs) zero low high le =
    part_count p xs zero (λ k d from lt. absurd (omega (arith, lt))) (λ k d from lt. high (suc k) d (omega arith) (omega (arith, lt))) (omega arith)
    ∙ sym (ap (λ (b : Bool). length (cond b (x ∷ filter p xs) (filter p xs))) (high 0 x (omega arith) (omega arith)))
part_count p (x ∷ xs) (suc i) low high le =
    ap suc (part_count p xs i (λ k d from lt. low (suc k) d (omega arith) (omega (arith, lt))) (λ k d from lt. high (suc k) d (omega (arith, from)) (omega (arith, lt))) (omega (arith, le)))
    ∙ sym (ap (λ (b : Bool). length (cond b (x ∷ filter p xs) (filter p xs))) (low 0 x (omega arith) (omega arith)))

below_before : (mark : Mark) (x y : OrderKey) → order_cmp x y ≡ Less → (b : Bool) → is_below mark (bare x) ≡ b → is_below mark (bare y) ≡ true → is_below mark (bare x) ≡ true
below_before mark x y less true e h = e
below_before mark x y less false e h = let a = sym (by_order_below mark mark x y less e) ∙ h in cc

pub run_parted : (mark : Mark) (run : List Item) → IsTrue (is_sorted order_cmp (map pair run)) → IsPartitionedBy (λ (y : Item). is_below mark (bare y.order)) run
run_parted mark [] h i j d le lt below = absurd (omega (arith, lt))
run_parted mark (x ∷ run) h zero zero d le lt below = below
run_parted mark (x ∷ run) h zero (suc j) d le lt below =
    let less = run_later x.order run (both_true _ _ h).0 j d (omega (arith, lt)) in
    below_before mark x.order (get_or run j d).order less (is_below mark (bare x.order)) refl below
run_parted mark (x ∷ run) h (suc i) zero d le lt below = absurd (omega (arith, le))
run_parted mark (x ∷ run) h (suc i) (suc j) d le lt below = run_parted mark run (both_true _ _ h).1 i j d (omega (arith, le)) (omega (arith, lt)) below

pub both_below : (mark : Mark) (run : List Item) (others : Entries) → IsHeld run others
    → length (filter (is_below mark) run) + length (filter (is_below mark) (items_in others)) ≡ length (filter (is_below mark) (held_in run others))
both_below mark run others is =
    let a = length-append (filter (is_below mark) run) (filter (is_below mark) (items_in others)) in
    let b = ap length (filter-append (is_below mark) run (items_in others)) in
    let c = length-filter (is_below mark) (run ++ items_in others) in
    let d = length-filter (is_below mark) (held_in run others) in
    let e = sum_by-IsPermutation (λ (i : Item). cond (is_below mark i) 1 0) (run ++ items_in others) (held_in run others) (sorted_keeps_all (run ++ items_in others) (all_differ run others is)) in
    sym a ∙ sym b ∙ c ∙ sym e ∙ sym d

-- ---- what calls answer
-- the first of the run was taken out
pub record Popped (old new : List Item) (oldest newest : Entries) (r : Option Item) : Type 0 where
  pub out : MatchOption r (held_in old oldest ≡ []) (λ item. held_in old oldest ≡ item ∷ held_in new newest)
  pub is : IsHeld new newest

pub run_popped : (r : Option Item) (old new : List Item) (others : Entries) → old ≡ option_to_list r ++ new → IsHeld old others → is_run_first old others ≡ true → (r ≡ None → old ≡ []) → Popped old new others others r
run_popped None old new others e is first none = let a = ap (λ (l : List Item). is_run_first l others) (none refl) in let b = sym first ∙ a in cc
run_popped (Some x) old new others e is first none =
    let held = subst (λ (l : List Item). IsHeld l others) e is in
    record { out = ap (λ (l : List Item). held_in l others) e ∙ run_out x new others held (sym (ap (λ (l : List Item). is_run_first l others) e) ∙ first); is = run_left x new others held }

no_run : (run : List Item) → is_run_first run [] ≡ false → run ≡ []
no_run [] h = refl
no_run (x ∷ run) h = cc

pub others_popped : (r : Option Item) (run : List Item) (old new : Entries) → MatchOption r ((old ≡ []) × (new ≡ [])) (λ item. old ≡ pair item ∷ new) → IsHeld run old → is_run_first run old ≡ false → Popped run run old new r
others_popped None run old new e is first = record {
  out = let none : run ≡ [] = no_run run (sym (ap (is_run_first run) e.0) ∙ first) in (λ i. held_in (none i) (e.0 i));
  is = subst (IsHeld run) (e.0 ∙ sym e.1) is;
}
others_popped (Some item) run old new e is first =
    let held = subst (IsHeld run) e is in
    record { out = ap (held_in run) e ∙ others_out run (pair item) new held (sym (ap (is_run_first run) e) ∙ first); is = others_left run (pair item) new held }

pub last_below : (run : List Item) (n : ℕ) (last : Item) (k : OrderKey) → IsTrue (is_sorted order_cmp (map pair run)) → suc n ≡ length run → last ≡ get_or run n last → IsTrue (is_lt (order_cmp last.order k))
    → All (λ (x : Item). IsTrue (is_lt (order_cmp x.order k))) run
last_below [] n last k h many e less = absurd (omega (arith, many))
last_below (x ∷ []) zero last k h many e less =
    All-cons (λ (y : Item). IsTrue (is_lt (order_cmp y.order k))) x [] (subst (λ (y : Item). IsTrue (is_lt (order_cmp y.order k))) e less) (All-nil (λ (y : Item). IsTrue (is_lt (order_cmp y.order k))))
last_below (x ∷ []) (suc n) last k h many e less = absurd (omega (arith, many))
last_below (x ∷ y ∷ run) zero last k h many e less = absurd (omega (arith, many))
last_below (x ∷ y ∷ run) (suc n) last k h many e less =
    let both = both_true _ _ h in
    let first : order_cmp x.order last.order ≡ Less = subst (λ (z : Item). order_cmp x.order z.order ≡ Less) (sym e) (run_later x.order (y ∷ run) both.0 n last (omega (arith, many))) in
    All-cons (λ (z : Item). IsTrue (is_lt (order_cmp z.order k))) x (y ∷ run)
    (ap is_lt (less_trans x.order last.order k first (is_less (order_cmp last.order k) (true_there _ less))))
    (last_below (y ∷ run) n last k both.1 (omega (arith, many)) e less)

pub first_told : (run : List Item) (others : Entries) (item : Item) (e : OrderKey × List Route) → 0 < length run → item ≡ get_or run 0 item → slice_get others 0 ≡ Some e
    → is_lt (order_cmp item.order e.0) ≡ is_run_first run others
first_told [] others item e some is first = absurd (omega (arith, some))
first_told (x ∷ run) [] item e some is first = cc
first_told (x ∷ run) (f ∷ others) item e some is first = λ i. is_lt (order_cmp (is i).order (same i).0)
  where
    same : e ≡ f
    same = cc

pub below_count : (mark : Mark) (run : List Item) (n : ℕ) → AllWithin (λ (y : Item). is_below mark (bare y.order) ≡ true) run 0 n → AllWithin (λ (y : Item). is_below mark (bare y.order) ≡ false) run n (length run) → n ≤ length run
    → n ≡ length (filter (is_below mark) run)
below_count mark run n low high le = part_count (λ (y : Item). is_below mark (bare y.order)) run n low high le ∙ ap length (filter_agree (λ (y : Item). is_below mark (bare y.order)) (is_below mark) (λ y. sym (of_place mark y)) run)

pub seen_popped : (r : Option Item) (a b new : List Item) → a ≡ b → MatchOption r (a ≡ []) (λ item. a ≡ item ∷ new) → MatchOption r (b ≡ []) (λ item. b ≡ item ∷ new)
seen_popped None a b new e h = sym e ∙ h
seen_popped (Some item) a b new e h = sym e ∙ h

pub no_more : (r : Option Item) (run : List Item) (n : ℕ) → n ≡ length run → (0 < n → IsSome r) → r ≡ None → run ≡ []
no_more r [] n many some none = refl
no_more r (x ∷ run) n many some none = let a = some (omega (arith, many)) in let b = ap is_some none in let d = sym a ∙ b in cc

-- an event was held, or nothing has changed
pub record Pushed {A B : Type 0} (run : List Item) (others : Entries) (before : List Item) (item : Item) (newer : List Item) (newest : Entries) (r : Result A B) : Type 0 where
  pub held : OnOk r (held_in newer newest ≡ sorted_items (before ++ item ∷ []))
  pub unchanged : OnErr r (held_in newer newest ≡ before)
  pub is : IsHeld newer newest

pub appended : {A B : Type 0} (r : Result A B) (run : List Item) (others : Entries) (before : List Item) (item : Item) (newer : List Item) → held_in run others ≡ before → IsHeld run others
    → All (λ (i : Item). i.order.line < item.order.line) before → All (λ (x : Item). IsTrue (is_lt (order_cmp x.order item.order))) run
    → OnOk r (newer ≡ run ++ item ∷ []) → OnErr r (newer ≡ run) → Pushed run others before item newer others r
appended (Ok u) run others before item newer seen is lines last new same =
    let there = subst (All (λ (i : Item). i.order.line < item.order.line)) (sym seen) lines in
    record {
      held = ap (λ (l : List Item). held_in l others) new ∙ run_more run others item is there ∙ ap (λ (l : List Item). sorted_items (l ++ item ∷ [])) seen;
      unchanged = tt;
      is = subst (λ (l : List Item). IsHeld l others) (sym new) (run_more_held run others item is there last);
    }
appended (Err e) run others before item newer seen is lines last new same = record { held = tt; unchanged = ap (λ (l : List Item). held_in l others) same ∙ seen; is = subst (λ (l : List Item). IsHeld l others) (sym same) is }

pub inserted : {A B : Type 0} (r : Result A B) (run : List Item) (others : Entries) (before : List Item) (item : Item) (newest : Entries) → held_in run others ≡ before → IsHeld run others
    → All (λ (i : Item). i.order.line < item.order.line) before → OnOk r (newest ≡ insert_entry order_cmp others item.order item.routes) → OnErr r (newest ≡ others) → Pushed run others before item run newest r
inserted (Ok u) run others before item newest seen is lines new same =
    let there = subst (All (λ (i : Item). i.order.line < item.order.line)) (sym seen) lines in
    record {
      held = ap (held_in run) new ∙ others_more run others item is there ∙ ap (λ (l : List Item). sorted_items (l ++ item ∷ [])) seen;
      unchanged = tt;
      is = subst (IsHeld run) (sym new) (others_more_held run others item is there);
    }
inserted (Err e) run others before item newest seen is lines new same = record { held = tt; unchanged = ap (held_in run) same ∙ seen; is = subst (IsHeld run) (sym same) is }

-- the events of a cut are a run
pub run_alone : (items : List Item) → Ascend items → (held_in items [] ≡ items) × IsHeld items []
run_alone items up = (
  ap sorted_items (append-nil items) ∙ sym (ap sorted_items (map_back back pair (λ e. refl) items)) ∙ sym (sorted_again (map pair items) (sorted_pairs items up)) ∙ map_back back pair (λ e. refl) items,
  record { run_order = sorted_pairs items up; others_order = refl; apart = none_apart items },
)
  where
    none_apart : (l : List Item) → AreApart l []
    none_apart l k d lt i e within = absurd (omega (arith, within))

pub held_sorted : (run : List Item) (others : Entries) → IsTrue (is_sorted order_cmp (map pair (held_in run others)))
held_sorted run others = subst (λ (es : Entries). IsTrue (is_sorted order_cmp es)) (sym (map_back pair back (λ e. refl) (in_order order_cmp (map pair (run ++ items_in others))))) (holds_true _ (in_order-sorted order_cmp order_cmp_total (map pair (run ++ items_in others))))

-- ---- lists of events in order
pub sorted_whole : (items : List Item) → IsTrue (is_sorted order_cmp (map pair items)) → items ≡ sorted_items items
sorted_whole items h = sym (map_back back pair (λ e. refl) items) ∙ sorted_again (map pair items) h ∙ ap sorted_items (map_back back pair (λ e. refl) items)

items_back : (items : List Item) → items_in (map pair items) ≡ items
items_back items = map_back back pair (λ e. refl) items

-- the first ones of them are those below a mark
pub record FirstBelow (mark : Mark) (items : List Item) (n : ℕ) : Type 0 where
  pub taken : take n items ≡ filter (is_below mark) items
  pub stays : drop n items ≡ filter (λ item. not (is_below mark item)) items

pub first_below : (mark : Mark) (items : List Item) (n : ℕ) → IsTrue (is_sorted order_cmp (map pair items)) → n ≡ length (filter (is_below mark) items) → FirstBelow mark items n
first_below mark items n h e =
    let out = taken_out mark (map pair items) n h (e ∙ ap (λ (l : List Item). length (filter (is_below mark) l)) (sym (items_back items))) in
    record {
      taken = sym (items_back (take n items)) ∙ ap items_in (sym (take-map pair n items)) ∙ out.taken ∙ ap (filter (is_below mark)) (items_back items);
      stays = sym (items_back (drop n items)) ∙ ap items_in (sym (drop-map pair n items)) ∙ out.stays ∙ ap (filter (λ item. not (is_below mark item))) (items_back items);
    }

-- one more of the first
pub one_more_out : (items : List Item) (k : ℕ) (item : Item) (rest : List Item) → drop k items ≡ item ∷ rest → (take (k + 1) items ≡ take k items ++ item ∷ []) × (rest ≡ drop (k + 1) items)
one_more_out items k item rest h = (
  take-add k 1 items ∙ ap (λ (l : List Item). take k items ++ take 1 l) h,
  ap (drop 1) (sym h) ∙ drop-drop 1 k items,
)
