-- The dead may be left out of a list of holders.
use Rattle.std.proofs.Common.{◌≡◌, ℕ, ◌-◌, ℤ, ◌≤ℤ◌, Bool, true, false, cond, List, [], ◌∷◌, ◌++◌, map, Option, Some, None, refl, sym, ap, subst, ◌∙◌, T}
use Rattle.std.specs.Prelude.{◌&&◌, nat_le, nat_lt, filter, find}
use Rattle.std.specs.List.{filter_map, cons_option}
use Rattle.std.specs.Option.{option_map}
use Rattle.std.specs.FinMap.Entries.{find as find_entry, same_entries, find_tied, is_sorted, below_all}
use Rattle.std.specs.Ordering.{eq_by_cmp}
use Rattle.eql_values.specs.declared.value.Value.{Value}
use Rattle.eql_values.specs.declared.item.Route.{Route}
use Rattle.eql_values.specs.declared.item.Item.{Item}
use Rattle.eql_values.specs.declared.found.Holder.{Holder}
use Rattle.eql_values.specs.Chains.{in_time}
use Rattle.eql_values.specs.Orders.{key_eq}
use Rattle.eql_values.specs.Matching.{matches, after, Openings, Slot, slot_cmp, key_event_by, key_events_of, onto, opening_of, held_after, matches_after}
use Rattle.eql_laws.specs.Alive.{alive_at, alive_holders, ItemsComeFrom, IsSpan, HoldersAreInOrder, DeadMakeNoMatch, AliveAreSameAfter, DeadStayDead, AfterIsInOrder, AliveAreInOrder, DeadChangeNothing, AliveLooksUp, SlotsLeaveOutDead}
use Rattle.eql_values.specs.Ordered.{in_order}
use Rattle.eql_values.proofs.InOrder.{in_order-sorted}
use Rattle.eql_laws.specs.Merging.{by_slot, holder_of}
use Rattle.eql_laws.proofs.Lists.{map_back, map_filter}
use Rattle.eql_laws.proofs.Facts.{holds_true, both_hold, left_holds, right_holds, less_not_equal, is_equal}
use Rattle.eql_laws.proofs.Held.{Entry, up_to, find-held, slot_cmp_total, slot_same, all_entries}
use Rattle.eql_laws.proofs.Aliveness.{slots_after_alive, AllFrom, in_time_before, chain_alive, holder_alive}

-- look-ups in filtered entries
module _ (span : Option ℤ) (t : ℤ) where
  abbrev alive_entry : Entry → Bool
  alive_entry e = in_time span e.1 t

  below_filter : (x : Slot) (es : List Entry) → T (below_all slot_cmp x es) → T (below_all slot_cmp x (filter alive_entry es))
  below_filter x [] h = tt
  below_filter x (e ∷ es) h =
      let rest = below_filter x es (right_holds _ _ h) in
      elim (alive_entry e) as (λ b. T (below_all slot_cmp x (cond b (e ∷ filter alive_entry es) (filter alive_entry es)))) [
        | true ↦ both_hold _ _ (left_holds _ _ h) rest
        | false ↦ rest
      ]

  sorted_filter : (es : List Entry) → T (is_sorted slot_cmp es) → T (is_sorted slot_cmp (filter alive_entry es))
  sorted_filter [] h = tt
  sorted_filter (e ∷ es) h =
      let rest = sorted_filter es (right_holds _ _ h) in
      elim (alive_entry e) as (λ b. T (is_sorted slot_cmp (cond b (e ∷ filter alive_entry es) (filter alive_entry es)))) [
        | true ↦ both_hold _ _ (below_filter e.0 es (left_holds _ _ h)) rest
        | false ↦ rest
      ]

find_below : (q : Slot) (es : List Entry) → T (below_all slot_cmp q es) → find_entry slot_cmp q es ≡ None
find_below q [] h = refl
find_below q (e ∷ es) h =
    ap (λ (b : Bool). cond b (Some e.1) (find_entry slot_cmp q es)) (less_not_equal (slot_cmp q e.0) (left_holds _ _ h)) ∙ find_below q es (right_holds _ _ h)

module _ (span : Option ℤ) (t : ℤ) where
  kept_one : (e : Entry) (q : Slot) (es : List Entry) (a b : Bool) → T (below_all slot_cmp e.0 es) → eq_by_cmp slot_cmp q e.0 ≡ a → in_time span e.1 t ≡ b
      → find_entry slot_cmp q (filter (alive_entry span t) es) ≡ alive_at span t (find_entry slot_cmp q es)
      → find_entry slot_cmp q (cond b (e ∷ filter (alive_entry span t) es) (filter (alive_entry span t) es)) ≡ alive_at span t (cond a (Some e.1) (find_entry slot_cmp q es))
  kept_one e q es true true below tied alive rest =
      ap (λ (x : Bool). cond x (Some e.1) (find_entry slot_cmp q (filter (alive_entry span t) es))) tied
      ∙ sym (ap (λ (x : Bool). cond x (Some e.1) None) alive)
  kept_one e q es false true below tied alive rest =
      ap (λ (x : Bool). cond x (Some e.1) (find_entry slot_cmp q (filter (alive_entry span t) es))) tied ∙ rest
  kept_one e q es false false below tied alive rest = rest
  kept_one e q es true false below tied alive rest =
      rest
      ∙ ap (alive_at span t) (sym (find_tied slot_cmp slot_cmp_total q e.0 (is_equal (slot_cmp q e.0) tied) es) ∙ find_below e.0 es below)
      ∙ sym (ap (λ (x : Bool). cond x (Some e.1) None) alive)

  find_filter : (q : Slot) (es : List Entry) → T (is_sorted slot_cmp es)
      → find_entry slot_cmp q (filter (alive_entry span t) es) ≡ alive_at span t (find_entry slot_cmp q es)
  find_filter q [] h = refl
  find_filter q (e ∷ es) h =
      kept_one e q es (eq_by_cmp slot_cmp q e.0) (in_time span e.1 t) (left_holds _ _ h) refl refl (find_filter q es (right_holds _ _ h))

  entries_filter : (holders : List Holder) → map by_slot (alive_holders span t holders) ≡ filter (alive_entry span t) (map by_slot holders)
  entries_filter holders = map_filter by_slot (λ h. in_time span h.chain t) (alive_entry span t) (λ h. refl) holders

  holders_filter : (es : List Entry) → map holder_of (filter (alive_entry span t) es) ≡ alive_holders span t (map holder_of es)
  holders_filter es = map_filter holder_of (alive_entry span t) (λ h. in_time span h.chain t) (λ e. refl) es

  pub opening_alive : (holders : List Holder) → HoldersAreInOrder holders → (key : List Value) (stage : ℕ)
      → opening_of (alive_holders span t holders) key stage ≡ alive_at span t (opening_of holders key stage)
  opening_alive holders order key stage =
      ap (find_entry slot_cmp (key, stage)) (entries_filter holders) ∙ find_filter (key, stage) (map by_slot holders) (subst T (sym order) tt)

  -- what items say comes when the items come
  key_events_from : (key : List Value) (items : List Item) → ItemsComeFrom t items → AllFrom t (key_events_of key items)
  key_events_from key [] from = tt
  key_events_from key (item ∷ items) from =
      elim (find (λ (route : Route). key_eq key route.key) item.routes) as (λ o. AllFrom t (cons_option (option_map (key_event_by item.order) o) (key_events_of key items))) [
        | None ↦ key_events_from key items from.1
        | Some r ↦ (from.0, key_events_from key items from.1)
      ]

  onto_from : (items past : List Item) → ItemsComeFrom t items → ItemsComeFrom t past → ItemsComeFrom t (onto items past)
  onto_from [] past from before = before
  onto_from (item ∷ items) past from before = onto_from items (item ∷ past) from.1 (from.0, before)

  matches_alive : (m : ℕ) (openings : Openings) (past items : List Item) → IsSpan span → ItemsComeFrom t items → ItemsComeFrom t past
      → matches_after m span (λ key stage. alive_at span t (openings key stage)) past items ≡ matches_after m span openings past items
  matches_alive m openings past [] s from before = refl
  matches_alive m openings past (item ∷ items) s from before = λ i.
      filter_map (λ (r : Route). option_map (λ c. record { key = r.key; chain = c })
      (chain_alive span s t (openings r.key) (key_event_by item.order r) (key_events_of r.key past) m (from.0, key_events_from r.key past before) i)) item.routes
      ++ matches_alive m openings (item ∷ past) items s from.1 (from.0, before) i

pub dead_matches : DeadMakeNoMatch
dead_matches m span t holders items s order from =
    (λ i. matches_after m span (λ key stage. opening_alive span t holders order key stage i) [] items)
    ∙ matches_alive span t m (opening_of holders) [] items s from tt

up_to_alive : (span : Option ℤ) (t : ℤ) (n : ℕ) (slots : Openings) (q : Slot)
    → up_to n (λ key stage. alive_at span t (slots key stage)) q ≡ alive_at span t (up_to n slots q)
up_to_alive span t n slots q =
    elim (nat_lt 0 q.1 && nat_le q.1 n) as (λ b. cond b (alive_at span t (slots q.0 q.1)) None ≡ alive_at span t (cond b (slots q.0 q.1) None)) [ true ↦ refl | false ↦ refl ]

pub dead_after : AliveAreSameAfter
dead_after m span t holders items s order from =
    ap (map holder_of) (same_entries slot_cmp slot_cmp_total slot_same
    (in_order slot_cmp (all_entries m span (alive_holders span t holders) items))
    (filter (alive_entry span t) (in_order slot_cmp (all_entries m span holders items)))
    (in_order-sorted slot_cmp slot_cmp_total (all_entries m span (alive_holders span t holders) items))
    (sorted_filter span t (in_order slot_cmp (all_entries m span holders items)) (in_order-sorted slot_cmp slot_cmp_total (all_entries m span holders items)))
    (λ q. find-held m span (alive_holders span t holders) items q
    ∙ (λ i. up_to (m - 1) (λ key stage. held_after span (λ key stage. opening_alive span t holders order key stage i) items key stage) q)
    ∙ (λ i. up_to (m - 1) (λ key stage. holder_alive span s t (opening_of holders key) (key_events_of key (onto items [])) stage (key_events_from span t key (onto items []) (onto_from span t items [] from tt)) i) q)
    ∙ up_to_alive span t (m - 1) (held_after span (opening_of holders) items) q
    ∙ sym (ap (alive_at span t) (find-held m span holders items q))
    ∙ sym (find_filter span t q (in_order slot_cmp (all_entries m span holders items)) (in_order-sorted slot_cmp slot_cmp_total (all_entries m span holders items)))))
    ∙ holders_filter span t (in_order slot_cmp (all_entries m span holders items))

-- who is dead stays dead
twice_one : (span : Option ℤ) (t later : ℤ) → t ≤ℤ later → (h : Holder) (hs : List Holder) (x y : Bool) → in_time span h.chain t ≡ x → in_time span h.chain later ≡ y
    → alive_holders span later (alive_holders span t hs) ≡ alive_holders span later hs
    → alive_holders span later (cond x (h ∷ alive_holders span t hs) (alive_holders span t hs)) ≡ cond y (h ∷ alive_holders span later hs) (alive_holders span later hs)
twice_one span t later le h hs true y e f rest =
    ap (λ (b : Bool). cond b (h ∷ alive_holders span later (alive_holders span t hs)) (alive_holders span later (alive_holders span t hs))) f
    ∙ ap (λ (l : List Holder). cond y (h ∷ l) l) rest
twice_one span t later le h hs false true e f rest = let k = in_time_before span h.chain t later le f in cc
twice_one span t later le h hs false false e f rest = rest

pub dead_for_good : DeadStayDead
dead_for_good span t later [] le = refl
dead_for_good span t later (h ∷ hs) le =
    twice_one span t later le h hs (in_time span h.chain t) (in_time span h.chain later) refl refl (dead_for_good span t later hs le)

pub after_in_order : AfterIsInOrder
after_in_order m span holders items =
    holds_true _ (subst (λ (es : List Entry). T (is_sorted slot_cmp es)) (sym (map_back by_slot holder_of (λ e. refl) (in_order slot_cmp (all_entries m span holders items))))
    (in_order-sorted slot_cmp slot_cmp_total (all_entries m span holders items)))

pub alive_in_order : AliveAreInOrder
alive_in_order span t holders order =
    holds_true _ (subst (λ (es : List Entry). T (is_sorted slot_cmp es)) (sym (entries_filter span t holders))
    (sorted_filter span t (map by_slot holders) (subst T (sym order) tt)))

pub dead_alike : DeadChangeNothing
dead_alike m span t a b items s order_a order_b alike from = (
  sym (dead_matches m span t a items s order_a from) ∙ ap (λ (h : List Holder). matches m span h items) alike ∙ dead_matches m span t b items s order_b from,
  sym (dead_after m span t a items s order_a from) ∙ ap (λ (h : List Holder). after m span h items) alike ∙ dead_after m span t b items s order_b from,
)

pub alive_looks_up : AliveLooksUp
alive_looks_up span t holders order key stage = opening_alive span t holders order key stage

pub slots_alive : SlotsLeaveOutDead
slots_alive span t slots item k s le = slots_after_alive span s t slots item k le
