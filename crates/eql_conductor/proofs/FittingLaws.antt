-- Events without routes change nothing that is found, and may be left out before events are put in order or after.
use Rattle.std.proofs.Common.{◌≡◌, ℕ, ℤ, Bool, true, false, cond, List, [], ◌∷◌, ◌++◌, map, Option, Some, None, refl, sym, ap, ◌∙◌, T}
use Rattle.std.specs.Prelude.{◌==◌, ◌||◌, All, filter, find, is_some}
use Rattle.std.specs.List.{cons_option, filter_map, flat_map}
use Rattle.std.specs.Option.{option_map}
use Rattle.std.specs.Ordering.{eq_by_cmp}
use Rattle.std.specs.Cmp.{IsTotalOrder}
use Rattle.std.specs.FinMap.Entries.{find as find_entry, find_tied, is_sorted, below_all}
use Rattle.std.specs.declared.cmp.Ordering.{Ordering}
use Rattle.std.proofs.lemmas.List.Elements.{All-head, All-map, All-tail, All-weaker}
use Rattle.eql_values.specs.declared.order.OrderKey.{OrderKey}
use Rattle.eql_values.specs.declared.value.Value.{Value}
use Rattle.eql_values.specs.declared.item.Route.{Route}
use Rattle.eql_values.specs.declared.item.Item.{Item}
use Rattle.eql_values.specs.declared.found.Holder.{Holder}
use Rattle.eql_values.specs.Ascending.{AllAreAfter, Ascend}
use Rattle.eql_values.specs.Chains.{chain, holder}
use Rattle.eql_values.specs.Matching.{Openings, Slot, slot_cmp, key_event_by, key_events_of, onto, opening_of, entries_of, held_after, match_by, matches, matches_after, after}
use Rattle.eql_values.specs.OrderKeys.{order_cmp}
use Rattle.eql_values.specs.Ordered.{in_order, found_or}
use Rattle.eql_values.specs.Orders.{key_eq}
use Rattle.eql_values.specs.Routing.{with_routes, routed_items}
use Rattle.eql_values.specs.Totals.{order_cmp_total}
use Rattle.eql_values.proofs.InOrder.{find-in_order, in_order-sorted, is_in_order}
use Rattle.eql_values.proofs.Same.{order_same}
use Rattle.eql_laws.specs.Apart.{IsApartFrom, AllAreApart, has_place, joined_lists}
use Rattle.eql_laws.proofs.Facts.{both_hold, left_holds, right_holds, less_is, less_not_equal, is_equal}
use Rattle.eql_laws.proofs.Lists.{map_filter}
use Rattle.eql_laws.proofs.Sorting.{Entry, pair, back, find_more}
use Rattle.eql_values.specs.Accepted.{sorted_items}
use Rattle.eql_conductor.specs.Fitting.{any_route, has_routes, fitting}

-- ---- entries whose values pass a test
module _ {X : Type 0} (test : X → Bool) where
  -- the value, where it passes the test
  abbrev passed : Option X → Option X
  passed None = None
  passed (Some x) = cond (test x) (Some x) None

  alone : (b : Bool) (x : X) → found_or (cond b (Some x) None) None ≡ cond b (Some x) None
  alone true x = refl
  alone false x = refl

  -- of two look-ups of which at most one finds
  passed_either : (o other : Option X) → (is_some o ≡ true → other ≡ None) → found_or (passed o) (passed other) ≡ passed (found_or o other)
  passed_either None other only = refl
  passed_either (Some x) other only = ap (λ (p : Option X). found_or (passed (Some x)) (passed p)) (only refl) ∙ alone (test x) x

  module _ {K : Type 0} (R : K → K → Ordering) where
    abbrev where_value : List (K × X) → List (K × X)
    where_value = filter (λ e. test e.1)

    below_where : (k : K) (es : List (K × X)) → T (below_all R k es) → T (below_all R k (where_value es))
    below_where k [] h = tt
    below_where k (e ∷ es) h = one (test e.1) (below_where k es (right_holds _ _ h))
      where
        one : (b : Bool) → T (below_all R k (where_value es)) → T (below_all R k (cond b (e ∷ where_value es) (where_value es)))
        one true rest = both_hold _ _ (left_holds _ _ h) rest
        one false rest = rest

    sorted_where : (es : List (K × X)) → T (is_sorted R es) → T (is_sorted R (where_value es))
    sorted_where [] h = tt
    sorted_where (e ∷ es) h = one (test e.1) (sorted_where es (right_holds _ _ h))
      where
        one : (b : Bool) → T (is_sorted R (where_value es)) → T (is_sorted R (cond b (e ∷ where_value es) (where_value es)))
        one true rest = both_hold _ _ (below_where e.0 es (left_holds _ _ h)) rest
        one false rest = rest

    none_below : (k : K) (es : List (K × X)) → T (below_all R k es) → find_entry R k es ≡ None
    none_below k [] h = refl
    none_below k (e ∷ es) h =
        ap (λ (b : Bool). cond b (Some e.1) (find_entry R k es)) (less_not_equal (R k e.0) (left_holds _ _ h)) ∙ none_below k es (right_holds _ _ h)

    -- among entries in order each key is there once, so a look-up finds the value where it passes
    find_where : IsTotalOrder R → (q : K) (es : List (K × X)) → T (is_sorted R es) → find_entry R q (where_value es) ≡ passed (find_entry R q es)
    find_where total q [] h = refl
    find_where total q (e ∷ es) h = one (eq_by_cmp R q e.0) (test e.1) refl refl (find_where total q es (right_holds _ _ h))
      where
        none_more : eq_by_cmp R q e.0 ≡ true → find_entry R q es ≡ None
        none_more tie = sym (find_tied R total q e.0 (is_equal _ tie) es) ∙ none_below e.0 es (left_holds _ _ h)

        one : (a b : Bool) → eq_by_cmp R q e.0 ≡ a → test e.1 ≡ b → find_entry R q (where_value es) ≡ passed (find_entry R q es)
            → find_entry R q (cond b (e ∷ where_value es) (where_value es)) ≡ passed (cond a (Some e.1) (find_entry R q es))
        one true true tie is rest =
            ap (λ (a : Bool). cond a (Some e.1) (find_entry R q (where_value es))) tie ∙ sym (ap (λ (b : Bool). cond b (Some e.1) None) is)
        one true false tie is rest = rest ∙ ap passed (none_more tie) ∙ sym (ap (λ (b : Bool). cond b (Some e.1) None) is)
        one false true tie is rest = ap (λ (a : Bool). cond a (Some e.1) (find_entry R q (where_value es))) tie ∙ rest
        one false false tie is rest = rest

-- ---- lists of events
all_after_fitting : (k : OrderKey) (items : List Item) → AllAreAfter k items → AllAreAfter k (fitting items)
all_after_fitting k [] h = tt
all_after_fitting k (item ∷ items) h = one (has_routes item) (all_after_fitting k items h.1)
  where
    one : (b : Bool) → AllAreAfter k (fitting items) → AllAreAfter k (cond b (item ∷ fitting items) (fitting items))
    one true rest = (h.0, rest)
    one false rest = rest

pub fitting_ascends : (items : List Item) → Ascend items → Ascend (fitting items)
fitting_ascends [] h = tt
fitting_ascends (item ∷ items) h = one (has_routes item) (fitting_ascends items h.2)
  where
    one : (b : Bool) → Ascend (fitting items) → Ascend (cond b (item ∷ fitting items) (fitting items))
    one true rest = (h.0, all_after_fitting item.order items h.1, rest)
    one false rest = rest

pub fitting_ascend : (lists : List (List Item)) → All Ascend lists → All Ascend (map fitting lists)
fitting_ascend lists h = All-map Ascend fitting lists (All-weaker Ascend (λ (items : List Item). Ascend (fitting items)) fitting_ascends lists h)

-- an event that has routes is one of all
there_before : (k : OrderKey) (items : List Item) → has_place k (fitting items) ≡ true → has_place k items ≡ true
there_before k [] there = there
there_before k (item ∷ items) there = one (eq_by_cmp order_cmp k item.order) (has_routes item) refl there (there_before k items)
  where
    one : (a b : Bool) → eq_by_cmp order_cmp k item.order ≡ a → has_place k (cond b (item ∷ fitting items) (fitting items)) ≡ true
        → (has_place k (fitting items) ≡ true → has_place k items ≡ true) → (a || has_place k items) ≡ true
    one true b tie there rest = refl
    one false true tie there rest = rest (sym (ap (λ (a : Bool). a || has_place k (fitting items)) tie) ∙ there)
    one false false tie there rest = rest there

none_of : (k : OrderKey) (items : List Item) → has_place k items ≡ false → has_place k (fitting items) ≡ false
none_of k items none = one (has_place k (fitting items)) refl
  where
    one : (b : Bool) → has_place k (fitting items) ≡ b → b ≡ false
    one true there = sym (there_before k items there) ∙ none
    one false there = refl

apart_from : (items : List Item) (lists : List (List Item)) → IsApartFrom items lists → IsApartFrom (fitting items) (map fitting lists)
apart_from items [] h = tt
apart_from items (others ∷ lists) h = (λ k there. none_of k others (h.0 k (there_before k items there)), apart_from items lists h.1)

pub fitting_apart : (lists : List (List Item)) → AllAreApart lists → AllAreApart (map fitting lists)
fitting_apart [] h = tt
fitting_apart (items ∷ lists) h = (apart_from items lists h.0, fitting_apart lists h.1)

-- ---- putting in order
all_below : (k : OrderKey) (items : List Item) → AllAreAfter k items → T (below_all order_cmp k (map pair items))
all_below k [] h = tt
all_below k (item ∷ items) h = both_hold _ _ (less_is _ h.0) (all_below k items h.1)

entries_sorted : (items : List Item) → Ascend items → T (is_sorted order_cmp (map pair items))
entries_sorted [] h = tt
entries_sorted (item ∷ items) h = both_hold _ _ (all_below item.order items h.1) (entries_sorted items h.2)

has_found : (k : OrderKey) (items : List Item) → has_place k items ≡ is_some (find_entry order_cmp k (map pair items))
has_found k [] = refl
has_found k (item ∷ items) = one (eq_by_cmp order_cmp k item.order) (has_found k items)
  where
    one : (b : Bool) → has_place k items ≡ is_some (find_entry order_cmp k (map pair items))
        → (b || has_place k items) ≡ is_some (cond b (Some item.routes) (find_entry order_cmp k (map pair items)))
    one true rest = refl
    one false rest = rest

is_none : {X : Type 0} (o : Option X) → is_some o ≡ false → o ≡ None
is_none None h = refl
is_none (Some x) h = cc

not_found : (k : OrderKey) (items : List Item) → has_place k items ≡ false → find_entry order_cmp k (map pair items) ≡ None
not_found k items none = is_none (find_entry order_cmp k (map pair items)) (sym (has_found k items) ∙ none)

-- what is in one list is in none of those that it is apart from
nowhere_else : (k : OrderKey) (items : List Item) (lists : List (List Item)) → IsApartFrom items lists → has_place k items ≡ true
    → find_entry order_cmp k (map pair (joined_lists lists)) ≡ None
nowhere_else k items [] h there = refl
nowhere_else k items (others ∷ lists) h there =
    find_more k others (joined_lists lists)
    ∙ (λ i. found_or (not_found k others (h.0 k there) i) (nowhere_else k items lists h.1 there i))

find_fitting : (k : OrderKey) (items : List Item) → Ascend items
    → find_entry order_cmp k (map pair (fitting items)) ≡ passed any_route (find_entry order_cmp k (map pair items))
find_fitting k items up =
    ap (find_entry order_cmp k) (map_filter pair has_routes (λ e. any_route e.1) (λ item. refl) items)
    ∙ find_where any_route order_cmp order_cmp_total k (map pair items) (entries_sorted items up)

find_joined : (k : OrderKey) (lists : List (List Item)) → All Ascend lists → AllAreApart lists
    → find_entry order_cmp k (map pair (joined_lists (map fitting lists))) ≡ passed any_route (find_entry order_cmp k (map pair (joined_lists lists)))
find_joined k [] up apart = refl
find_joined k (items ∷ lists) up apart =
    find_more k (fitting items) (joined_lists (map fitting lists))
    ∙ (λ i. found_or (find_fitting k items (All-head Ascend items lists up) i) (find_joined k lists (All-tail Ascend items lists up) apart.1 i))
    ∙ passed_either any_route (find_entry order_cmp k (map pair items)) (find_entry order_cmp k (map pair (joined_lists lists)))
    (λ there. nowhere_else k items lists apart.0 (has_found k items ∙ there))
    ∙ sym (ap (passed any_route) (find_more k items (joined_lists lists)))

pub fitting_sorted : (lists : List (List Item)) → All Ascend lists → AllAreApart lists → fitting (sorted_items (joined_lists lists)) ≡ sorted_items (joined_lists (map fitting lists))
fitting_sorted lists up apart =
    let all : List Entry = map pair (joined_lists lists) in
    sym (map_filter back (λ e. any_route e.1) has_routes (λ e. refl) (in_order order_cmp all))
    ∙ ap (map back) (is_in_order order_cmp order_cmp_total order_same (filter (λ (e : Entry). any_route e.1) (in_order order_cmp all)) (map pair (joined_lists (map fitting lists)))
    (sorted_where any_route order_cmp (in_order order_cmp all) (in_order-sorted order_cmp order_cmp_total all))
    (λ q. find_where any_route order_cmp order_cmp_total q (in_order order_cmp all) (in_order-sorted order_cmp order_cmp_total all)
    ∙ ap (passed any_route) (find-in_order order_cmp order_cmp_total q all)
    ∙ sym (find_joined q lists up apart)))

-- ---- what is found
key_events_fitting : (key : List Value) (items : List Item) → key_events_of key (fitting items) ≡ key_events_of key items
key_events_fitting key [] = refl
key_events_fitting key (item ∷ items) = one item.routes (key_events_fitting key items)
  where
    one : (routes : List Route) → key_events_of key (fitting items) ≡ key_events_of key items
        → key_events_of key (fitting (back (item.order, routes) ∷ items)) ≡ key_events_of key (back (item.order, routes) ∷ items)
    one [] rest = rest
    one (r ∷ routes) rest = ap (cons_option (option_map (key_event_by item.order) (find (λ (route : Route). key_eq key route.key) (r ∷ routes)))) rest

module _ (m : ℕ) (span : Option ℤ) (openings : Openings) where
  match_fitting : (past : List Item) (order : OrderKey) (route : Route) → match_by m span openings (fitting past) order route ≡ match_by m span openings past order route
  match_fitting past order route =
      λ i. option_map (λ c. record { key = route.key; chain = c }) (chain span (openings route.key) m (key_event_by order route ∷ key_events_fitting route.key past i))

  found_after : (past items : List Item) → matches_after m span openings (fitting past) (fitting items) ≡ matches_after m span openings past items
  found_after past [] = refl
  found_after past (item ∷ items) = one item.routes (λ (routes : List Route). found_after (back (item.order, routes) ∷ past) items)
    where
      one : (routes : List Route)
          → ((routes : List Route) → matches_after m span openings (fitting (back (item.order, routes) ∷ past)) (fitting items)
          ≡ matches_after m span openings (back (item.order, routes) ∷ past) items)
          → matches_after m span openings (fitting past) (fitting (back (item.order, routes) ∷ items)) ≡ matches_after m span openings past (back (item.order, routes) ∷ items)
      one [] rest = rest []
      one (r ∷ routes) rest = λ i. filter_map (λ route. match_fitting past item.order route i) (r ∷ routes) ++ rest (r ∷ routes) i

pub found_fitting : (m : ℕ) (span : Option ℤ) (holders : List Holder) (items : List Item) → matches m span holders (fitting items) ≡ matches m span holders items
found_fitting m span holders items = found_after m span (opening_of holders) [] items

onto_fitting : (items past : List Item) → onto (fitting items) (fitting past) ≡ fitting (onto items past)
onto_fitting [] past = refl
onto_fitting (item ∷ items) past = one item.routes (λ (routes : List Route). onto_fitting items (back (item.order, routes) ∷ past))
  where
    one : (routes : List Route)
        → ((routes : List Route) → onto (fitting items) (fitting (back (item.order, routes) ∷ past)) ≡ fitting (onto items (back (item.order, routes) ∷ past)))
        → onto (fitting (back (item.order, routes) ∷ items)) (fitting past) ≡ fitting (onto items (back (item.order, routes) ∷ past))
    one [] rest = rest []
    one (r ∷ routes) rest = rest (r ∷ routes)

abbrev keys_of : Item → List (List Value)
keys_of item = map (λ (r : Route). r.key) item.routes

keys_fitting : (items : List Item) → flat_map keys_of (fitting items) ≡ flat_map keys_of items
keys_fitting [] = refl
keys_fitting (item ∷ items) = one item.routes (keys_fitting items)
  where
    one : (routes : List Route) → flat_map keys_of (fitting items) ≡ flat_map keys_of items
        → flat_map keys_of (fitting (back (item.order, routes) ∷ items)) ≡ flat_map keys_of (back (item.order, routes) ∷ items)
    one [] rest = rest
    one (r ∷ routes) rest = ap (λ (keys : List (List Value)). map (λ (r : Route). r.key) (r ∷ routes) ++ keys) rest

held_fitting : (span : Option ℤ) (openings : Openings) (items : List Item) (key : List Value) (stage : ℕ)
    → held_after span openings (fitting items) key stage ≡ held_after span openings items key stage
held_fitting span openings items key stage =
    ap (holder span (openings key) stage) (ap (key_events_of key) (onto_fitting items []) ∙ key_events_fitting key (onto items []))

pub after_fitting : (m : ℕ) (span : Option ℤ) (holders : List Holder) (items : List Item) → after m span holders (fitting items) ≡ after m span holders items
after_fitting m span holders items =
    λ i. map (λ (e : Slot × List OrderKey). record { key = e.0.0; stage = e.0.1; chain = e.1 })
    (in_order slot_cmp (flat_map (entries_of m (λ key stage. held_fitting span (opening_of holders) items key stage i))
    (map (λ (h : Holder). h.key) holders ++ keys_fitting items i)))

pub routed_fitting : (part : List Value → ℕ) (p : ℕ) (items : List Item) → routed_items part p (fitting items) ≡ routed_items part p items
routed_fitting part p [] = refl
routed_fitting part p (item ∷ items) = one item.routes (routed_fitting part p items)
  where
    one : (routes : List Route) → routed_items part p (fitting items) ≡ routed_items part p items
        → routed_items part p (fitting (back (item.order, routes) ∷ items)) ≡ routed_items part p (back (item.order, routes) ∷ items)
    one [] rest = rest
    one (r ∷ routes) rest = ap (cons_option (with_routes item (filter (λ (r : Route). part r.key == p) (r ∷ routes)))) rest
