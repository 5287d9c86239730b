-- The matches of all keys are those of each part's keys, merged.
use Rattle.std.proofs.Common.{◌≡◌, ℕ, zero, suc, ◌<◌, ℤ, Bool, true, false, cond, List, [], ◌∷◌, ◌++◌, map, Option, Some, None, refl, sym, ap, ◌∙◌, arith, T, subst}
use Rattle.std.specs.Prelude.{nat_lt}
use Rattle.std.specs.List.{filter_map, cons_option, flat_map}
use Rattle.std.specs.Option.{option_map}
use Rattle.std.specs.Ordering.{is_lt, ordering_then}
use Rattle.std.specs.Cmp.{tied_itself}
use Rattle.std.specs.Cmp.Lexicographic.{slice_cmp}
use Rattle.std.specs.FinMap.{IsAntisymmetric, slice_cmp-IsAntisymmetric}
use Rattle.std.specs.FinMap.Entries.{find, is_sorted, below_all}
use Rattle.std.specs.declared.cmp.Ordering.{Ordering}
use Rattle.std.specs.declared.cmp.Ordering.TheVariants.{Less, Equal}
use Rattle.std.proofs.lemmas.Bool.Decides.{nat_tests}
use Rattle.std.proofs.lemmas.List.{map-append}
use Rattle.eql_values.specs.declared.order.OrderKey.{OrderKey}
use Rattle.eql_values.specs.declared.value.Value.{Value}
use Rattle.eql_values.specs.declared.item.KeyEvent.{KeyEvent}
use Rattle.eql_values.specs.declared.item.Route.{Route}
use Rattle.eql_values.specs.declared.item.Item.{Item}
use Rattle.eql_values.specs.declared.found.Match.{Match}
use Rattle.eql_values.specs.Chains.{chain, fits_after}
use Rattle.eql_laws.specs.Slots.{Slots, chain_moved_on, chain_coming}
use Rattle.eql_values.specs.Orders.{key_cmp}
use Rattle.eql_values.specs.Totals.{order_cmp_total}
use Rattle.eql_values.proofs.Same.{key_same, order_same}
use Rattle.eql_values.specs.OrderKeys.{order_cmp}
use Rattle.eql_values.specs.Ordered.{numbers}
use Rattle.eql_values.proofs.InOrder.{is_in_order, in_order-sorted}
use Rattle.eql_values.specs.Matching.{Openings, key_event_by, key_events_of, match_by, matches_after, matches, opening_of}
use Rattle.eql_values.specs.Routing.{routed_items}
use Rattle.eql_values.specs.Ascending.{AllAreAfter, Ascend}
use Rattle.eql_laws.specs.Merging.{last_of, Ending, ending_cmp, by_ending, match_of, by_slot, holder_of}
use Rattle.eql_laws.specs.Shapes.{MatchesAreInOrder}
use Rattle.eql_laws.specs.Parts.{KeysMerge, KeysGather, holders_in}
use Rattle.eql_laws.proofs.Lists.{map_back, find_kinds}
use Rattle.eql_laws.proofs.Stepping.{chain_step, slots_of_past}
use Rattle.eql_laws.proofs.PartMatches.{routed_matches, after_routed}
use Rattle.eql_values.specs.declared.found.Holder.{Holder}
use Rattle.eql_values.specs.Ordered.{in_order}
use Rattle.eql_values.specs.Matching.{slot_cmp, after}
use Rattle.eql_laws.proofs.Held.{slot_cmp_total, slot_same, all_entries}
use Rattle.eql_laws.specs.Totals.{ending_cmp_total}
use Rattle.eql_laws.proofs.Facts.{holds_true, both_hold, left_holds, right_holds, both_equal, less_is}

abbrev EndingEntry : Type 0
EndingEntry = Ending × List OrderKey

pub ending_same : IsAntisymmetric ending_cmp
ending_same x y e =
    let both = both_equal (slice_cmp order_cmp x.0 y.0) (key_cmp x.1 y.1) e in
    λ i. (slice_cmp-IsAntisymmetric order_same x.0 y.0 both.0 i, key_same x.1 y.1 both.1 i)

-- the last event of a chain is the item that it is the chain of
last-append : (c : List OrderKey) (own : OrderKey) → last_of (c ++ own ∷ []) ≡ own ∷ []
last-append [] own = refl
last-append (x ∷ []) own = refl
last-append (x ∷ y ∷ zs) own = last-append (y ∷ zs) own

-- a chain that is there ends with this event
abbrev EndsWith : OrderKey → Option (List OrderKey) → Type 0
EndsWith own None = Unit {0}
EndsWith own (Some c) = last_of c ≡ own ∷ []

ends_if : (own : OrderKey) (b : Bool) (o : Option (List OrderKey)) → EndsWith own o → EndsWith own (cond b o None)
ends_if own true o h = h
ends_if own false o h = tt

ends_moved : (span : Option ℤ) (o : Option (List OrderKey)) (item : KeyEvent) → EndsWith item.order (chain_moved_on span o item)
ends_moved span None item = tt
ends_moved span (Some c) item = ends_if item.order _ (Some (c ++ item.order ∷ [])) (last-append c item.order)

ends_arrived : (span : Option ℤ) (slots : Slots) (item : KeyEvent) (k : ℕ) → EndsWith item.order (chain_coming span slots item k)
ends_arrived span slots item zero = tt
ends_arrived span slots item (suc zero) = ends_if item.order (fits_after 0 item) (Some (item.order ∷ [])) refl
ends_arrived span slots item (suc (suc k)) = ends_if item.order _ (chain_moved_on span (slots (suc k)) item) (ends_moved span (slots (suc k)) item)

ends_chain : (span : Option ℤ) (opening : Slots) (k : ℕ) (item : KeyEvent) (past : List KeyEvent) → EndsWith item.order (chain span opening k (item ∷ past))
ends_chain span opening k item past =
    subst (EndsWith item.order) (sym (chain_step span opening k item past)) (ends_arrived span (slots_of_past span opening past) item k)

-- the matches ascend
cons_option-append : (o : Option EndingEntry) (xs ys : List EndingEntry) → cons_option o xs ++ ys ≡ cons_option o (xs ++ ys)
cons_option-append None xs ys = refl
cons_option-append (Some x) xs ys = refl

module _ (m : ℕ) (span : Option ℤ) (openings : Openings) where
  -- the ends of the matches
  abbrev chain_by : List Item → OrderKey → Route → Option (List OrderKey)
  chain_by past order route = chain span (openings route.key) m (key_event_by order route ∷ key_events_of route.key past)

  abbrev end_by : List Item → OrderKey → Route → Option EndingEntry
  end_by past order route = option_map (λ c. ((order ∷ [], route.key), c)) (chain_by past order route)

  abbrev ends_after : List Item → List Item → List EndingEntry
  ends_after past [] = []
  ends_after past (item ∷ items) = filter_map (end_by past item.order) item.routes ++ ends_after (item ∷ past) items

  one_end : (order : OrderKey) (key : List Value) (o : Option (List OrderKey)) (rest : List Match) → EndsWith order o
      → map by_ending (cons_option (option_map (λ c. record { key = key; chain = c }) o) rest)
      ≡ cons_option (option_map (λ c. ((order ∷ [], key), c)) o) (map by_ending rest)
  one_end order key None rest e = refl
  one_end order key (Some c) rest e = λ i. ((e i, key), c) ∷ map by_ending rest

  item_ends : (past : List Item) (order : OrderKey) (routes : List Route)
      → map by_ending (filter_map (match_by m span openings past order) routes) ≡ filter_map (end_by past order) routes
  item_ends past order [] = refl
  item_ends past order (r ∷ routes) =
      one_end order r.key (chain_by past order r) (filter_map (match_by m span openings past order) routes)
      (ends_chain span (openings r.key) m (key_event_by order r) (key_events_of r.key past))
      ∙ ap (cons_option (end_by past order r)) (item_ends past order routes)

  ends_are : (past items : List Item) → map by_ending (matches_after m span openings past items) ≡ ends_after past items
  ends_are past [] = refl
  ends_are past (item ∷ items) =
      map-append by_ending (filter_map (match_by m span openings past item.order) item.routes) (matches_after m span openings (item ∷ past) items)
      ∙ (λ i. item_ends past item.order item.routes i ++ ends_are (item ∷ past) items i)

  below_one : (x k : Ending) (o : Option (List OrderKey)) (rest : List EndingEntry) → T (is_lt (ending_cmp x k)) → T (below_all ending_cmp x rest)
      → T (below_all ending_cmp x (cons_option (option_map (λ c. (k, c)) o) rest))
  below_one x k None rest lt h = h
  below_one x k (Some c) rest lt h = both_hold _ _ lt h

  -- what ends with a later event is greater
  below_later : (event order : OrderKey) (key : List Value) (past : List Item) (routes : List Route) (rest : List EndingEntry) → order_cmp event order ≡ Less
      → T (below_all ending_cmp (event ∷ [], key) rest) → T (below_all ending_cmp (event ∷ [], key) (filter_map (end_by past order) routes ++ rest))
  below_later event order key past [] rest lt h = h
  below_later event order key past (r ∷ routes) rest lt h =
      subst (λ (es : List EndingEntry). T (below_all ending_cmp (event ∷ [], key) es)) (sym (cons_option-append (end_by past order r) (filter_map (end_by past order) routes) rest))
      (below_one (event ∷ [], key) (order ∷ [], r.key) (chain_by past order r) (filter_map (end_by past order) routes ++ rest)
      (less_is _ (ap (λ (o : Ordering). ordering_then (ordering_then o Equal) (key_cmp key r.key)) lt))
      (below_later event order key past routes rest lt h))

  below_all_later : (event : OrderKey) (key : List Value) (past items : List Item) → AllAreAfter event items
      → T (below_all ending_cmp (event ∷ [], key) (ends_after past items))
  below_all_later event key past [] after = tt
  below_all_later event key past (item ∷ items) after =
      below_later event item.order key past item.routes (ends_after (item ∷ past) items) after.0 (below_all_later event key (item ∷ past) items after.1)

  -- of the ends with one event those with greater keys are greater
  below_same : (order : OrderKey) (key : List Value) (past : List Item) (routes : List Route) (rest : List EndingEntry)
      → T (below_all key_cmp key (map (λ (r : Route). (r.key, r)) routes)) → T (below_all ending_cmp (order ∷ [], key) rest)
      → T (below_all ending_cmp (order ∷ [], key) (filter_map (end_by past order) routes ++ rest))
  below_same order key past [] rest keys h = h
  below_same order key past (r ∷ routes) rest keys h =
      subst (λ (es : List EndingEntry). T (below_all ending_cmp (order ∷ [], key) es)) (sym (cons_option-append (end_by past order r) (filter_map (end_by past order) routes) rest))
      (below_one (order ∷ [], key) (order ∷ [], r.key) (chain_by past order r) (filter_map (end_by past order) routes ++ rest)
      (subst (λ (o : Ordering). T (is_lt (ordering_then (ordering_then o Equal) (key_cmp key r.key)))) (sym (tied_itself order_cmp_total order)) (left_holds _ _ keys))
      (below_same order key past routes rest (right_holds _ _ keys) h))

  sorted_one : (k : Ending) (o : Option (List OrderKey)) (rest : List EndingEntry) → T (below_all ending_cmp k rest) → T (is_sorted ending_cmp rest)
      → T (is_sorted ending_cmp (cons_option (option_map (λ c. (k, c)) o) rest))
  sorted_one k None rest h s = s
  sorted_one k (Some c) rest h s = both_hold _ _ h s

  sorted_item : (order : OrderKey) (past : List Item) (routes : List Route) (rest : List EndingEntry)
      → T (is_sorted key_cmp (map (λ (r : Route). (r.key, r)) routes)) → ((key : List Value) → T (below_all ending_cmp (order ∷ [], key) rest)) → T (is_sorted ending_cmp rest)
      → T (is_sorted ending_cmp (filter_map (end_by past order) routes ++ rest))
  sorted_item order past [] rest keys below s = s
  sorted_item order past (r ∷ routes) rest keys below s =
      subst (λ (es : List EndingEntry). T (is_sorted ending_cmp es)) (sym (cons_option-append (end_by past order r) (filter_map (end_by past order) routes) rest))
      (sorted_one (order ∷ [], r.key) (chain_by past order r) (filter_map (end_by past order) routes ++ rest)
      (below_same order r.key past routes rest (left_holds _ _ keys) (below r.key))
      (sorted_item order past routes rest (right_holds _ _ keys) below s))

  ends_sorted : (past items : List Item) → Ascend items → T (is_sorted ending_cmp (ends_after past items))
  ends_sorted past [] up = tt
  ends_sorted past (item ∷ items) up =
      sorted_item item.order past item.routes (ends_after (item ∷ past) items) (subst T (sym up.0) tt)
      (λ key. below_all_later item.order key (item ∷ past) items up.1) (ends_sorted (item ∷ past) items up.2)

within : (k n : ℕ) → k < n → nat_lt k n ≡ true
within k n h = grind (arith, nat_tests)

-- the matches ascend by last event, and then by key
pub endings_ascend : (m : ℕ) (span : Option ℤ) (holders : List Holder) (items : List Item) → Ascend items
    → T (is_sorted ending_cmp (map by_ending (matches m span holders items)))
endings_ascend m span holders items up =
    subst (λ (es : List EndingEntry). T (is_sorted ending_cmp es)) (sym (ends_are m span (opening_of holders) [] items)) (ends_sorted m span (opening_of holders) [] items up)

pub matches_in_order : MatchesAreInOrder
matches_in_order m span holders items up = holds_true _ (endings_ascend m span holders items up)

pub keys_merge : KeysMerge
keys_merge m span part n holders items parts up =
    sym (map_back match_of by_ending (λ m. refl) (matches m span holders items))
    ∙ ap (map match_of) (is_in_order ending_cmp ending_cmp_total ending_same (map by_ending (matches m span holders items))
    (map by_ending (flat_map (λ p. matches m span holders (routed_items part p items)) (numbers n)))
    (endings_ascend m span holders items up)
    (λ q. sym (find_kinds ending_cmp ending_same by_ending (λ k. part k.1) (matches m span holders items) (λ p. matches m span holders (routed_items part p items))
    (λ p. routed_matches part p m span holders items) q n
    ∙ ap (λ (b : Bool). cond b (find ending_cmp q (map by_ending (matches m span holders items))) None) (within (part q.1) n (parts q.1)))))

pub keys_gather : KeysGather
keys_gather m span part n holders items parts =
    ap (map holder_of) (is_in_order slot_cmp slot_cmp_total slot_same (in_order slot_cmp (all_entries m span holders items))
    (map by_slot (flat_map (λ p. after m span (holders_in part p holders) (routed_items part p items)) (numbers n)))
    (in_order-sorted slot_cmp slot_cmp_total (all_entries m span holders items))
    (λ q. ap (find slot_cmp q) (sym (map_back by_slot holder_of (λ e. refl) (in_order slot_cmp (all_entries m span holders items))))
    ∙ sym (find_kinds slot_cmp slot_same by_slot (λ k. part k.0) (after m span holders items) (λ p. after m span (holders_in part p holders) (routed_items part p items))
    (λ p. after_routed part p m span holders items) q n
    ∙ ap (λ (b : Bool). cond b (find slot_cmp q (map by_slot (after m span holders items))) None) (within (part q.0) n (parts q.0)))))
