-- The machines of different keys don't touch each other.
use Rattle.std.proofs.Common.{◌≡◌, ℕ, ℤ, Bool, true, false, cond, List, [], ◌∷◌, ◌++◌, Option, Some, None, refl, sym, ap, ◌∙◌}
use Rattle.std.specs.Prelude.{filter, find, ◌==◌}
use Rattle.std.specs.List.{filter_map, cons_option}
use Rattle.std.specs.Option.{option_map}
use Rattle.std.proofs.lemmas.List.Elements.{filter-append}
use Rattle.eql_values.specs.declared.order.OrderKey.{OrderKey}
use Rattle.eql_values.specs.declared.value.Value.{Value}
use Rattle.eql_values.specs.declared.item.KeyEvent.{KeyEvent}
use Rattle.eql_values.specs.declared.item.Route.{Route}
use Rattle.eql_values.specs.declared.item.Item.{Item}
use Rattle.eql_values.specs.declared.found.Match.{Match}
use Rattle.eql_values.specs.Chains.{chain}
use Rattle.eql_values.specs.Orders.{key_eq, key_cmp}
use Rattle.eql_values.proofs.Same.{key_same}
use Rattle.eql_values.specs.Matching.{Openings, key_event_by, key_events_of, match_by, matches_after}
use Rattle.eql_values.specs.Routing.{with_routes, routed_items}
use Rattle.std.specs.Prelude.{◌-◌, ◌&&◌, nat_le, nat_lt}
use Rattle.std.proofs.Common.{map, zero, suc}
use Rattle.std.specs.FinMap.Entries.{find as find_entry, where_key, find-where_key, is_sorted-where_key, same_entries}
use Rattle.eql_values.specs.declared.found.Holder.{Holder}
use Rattle.eql_values.specs.Chains.{holder}
use Rattle.eql_values.specs.Ordered.{in_order}
use Rattle.eql_values.proofs.InOrder.{both_none, in_order-sorted}
use Rattle.eql_values.specs.Matching.{Slot, slot_cmp, onto, opening_of, held_after, matches, after}
use Rattle.eql_laws.specs.Merging.{by_slot, holder_of}
use Rattle.eql_laws.specs.Parts.{matches_in, holders_in}
use Rattle.eql_laws.proofs.Lists.{map_filter}
use Rattle.eql_laws.proofs.Stepping.{holder_start}
use Rattle.eql_laws.proofs.Held.{Entry, up_to, all_entries, find-held, slot_cmp_total, slot_same}
use Rattle.eql_laws.proofs.Facts.{is_equal}

module _ (part : List Value → ℕ) (p : ℕ) where
  abbrev pub of_part : Route → Bool
  of_part r = part r.key == p

  abbrev match_of_part : Match → Bool
  match_of_part m = part m.key == p

  find_one : (key : List Value) (r : Route) (rest found : List Route) (a b : Bool) → key_eq key r.key ≡ a → of_part r ≡ b → (part key == p) ≡ true
      → find (λ (r : Route). key_eq key r.key) rest ≡ find (λ (r : Route). key_eq key r.key) found
      → find (λ (r : Route). key_eq key r.key) (cond b (r ∷ rest) rest) ≡ cond a (Some r) (find (λ (r : Route). key_eq key r.key) found)
  find_one key r rest found true true e f here same = ap (λ (x : Bool). cond x (Some r) (find (λ (r : Route). key_eq key r.key) rest)) e
  find_one key r rest found false true e f here same = ap (λ (x : Bool). cond x (Some r) (find (λ (r : Route). key_eq key r.key) rest)) e ∙ same
  find_one key r rest found true false e f here same =
      let apart : (part r.key == p) ≡ true = ap (λ (k : List Value). part k == p) (sym (key_same key r.key (is_equal (key_cmp key r.key) e))) ∙ here in cc
  find_one key r rest found false false e f here same = same

  -- a route of a key of the part is found among the part's routes
  found_in_part : (key : List Value) (routes : List Route) → (part key == p) ≡ true
      → find (λ (r : Route). key_eq key r.key) (filter of_part routes) ≡ find (λ (r : Route). key_eq key r.key) routes
  found_in_part key [] here = refl
  found_in_part key (r ∷ routes) here =
      find_one key r (filter of_part routes) routes (key_eq key r.key) (of_part r) refl refl here (found_in_part key routes here)

  key_events_with : (key : List Value) (item : Item) (rs : List Route) (rest : List Item)
      → key_events_of key (cons_option (with_routes item rs) rest)
      ≡ cons_option (option_map (key_event_by item.order) (find (λ (r : Route). key_eq key r.key) rs)) (key_events_of key rest)
  key_events_with key item [] rest = refl
  key_events_with key item (r ∷ rs) rest = refl

  -- what items say to a key of the part they say by the part's routes
  pub key_events_routed : (key : List Value) (past : List Item) → (part key == p) ≡ true → key_events_of key (routed_items part p past) ≡ key_events_of key past
  key_events_routed key [] here = refl
  key_events_routed key (item ∷ past) here =
      key_events_with key item (filter of_part item.routes) (routed_items part p past)
      ∙ (λ i. cons_option (option_map (key_event_by item.order) (found_in_part key item.routes here i)) (key_events_routed key past here i))

  -- the openings of a part are those of all, at the part's keys
  abbrev pub Agree : Openings → Openings → Type 0
  Agree openings own = (key : List Value) (stage : ℕ) → (part key == p) ≡ true → openings key stage ≡ own key stage

  module _ (m : ℕ) (span : Option ℤ) (openings own : Openings) (agree : Agree openings own) where
    keep_none : (b : Bool) (past : List Item) (order : OrderKey) (r : Route) (o : Option (List OrderKey)) → of_part r ≡ b → (rest : List Match)
        → filter match_of_part (cons_option (option_map (λ c. record { key = r.key; chain = c }) o) rest)
        ≡ cond b (cons_option (option_map (λ c. record { key = r.key; chain = c }) o) (filter match_of_part rest)) (filter match_of_part rest)
    keep_none true past order r None e rest = refl
    keep_none false past order r None e rest = refl
    keep_none true past order r (Some c) e rest = ap (λ (b : Bool). cond b (record { key = r.key; chain = c } ∷ filter match_of_part rest) (filter match_of_part rest)) e
    keep_none false past order r (Some c) e rest = ap (λ (b : Bool). cond b (record { key = r.key; chain = c } ∷ filter match_of_part rest) (filter match_of_part rest)) e

    match_routed : (past : List Item) (order : OrderKey) (r : Route) → of_part r ≡ true
        → match_by m span openings past order r ≡ match_by m span own (routed_items part p past) order r
    match_routed past order r here =
        ap (λ (key_events : List KeyEvent). option_map (λ c. record { key = r.key; chain = c }) (chain span (openings r.key) m (key_event_by order r ∷ key_events))) (sym (key_events_routed r.key past here))
        ∙ (λ i. option_map (λ c. record { key = r.key; chain = c })
        (chain span (λ stage. agree r.key stage here i) m (key_event_by order r ∷ key_events_of r.key (routed_items part p past))))

    kept_match : (past : List Item) (order : OrderKey) (r : Route) (b : Bool) → of_part r ≡ b → (rest : List Match) (routes : List Route)
        → filter match_of_part rest ≡ filter_map (match_by m span own (routed_items part p past) order) routes
        → cond b (cons_option (match_by m span openings past order r) (filter match_of_part rest)) (filter match_of_part rest)
        ≡ filter_map (match_by m span own (routed_items part p past) order) (cond b (r ∷ routes) routes)
    kept_match past order r true e rest routes same = λ i. cons_option (match_routed past order r e i) (same i)
    kept_match past order r false e rest routes same = same

    kept_matches : (past : List Item) (order : OrderKey) (routes : List Route)
        → filter match_of_part (filter_map (match_by m span openings past order) routes)
        ≡ filter_map (match_by m span own (routed_items part p past) order) (filter of_part routes)
    kept_matches past order [] = refl
    kept_matches past order (r ∷ routes) =
        keep_none (of_part r) past order r (chain span (openings r.key) m (key_event_by order r ∷ key_events_of r.key past)) refl (filter_map (match_by m span openings past order) routes)
        ∙ kept_match past order r (of_part r) refl (filter_map (match_by m span openings past order) routes) (filter of_part routes) (kept_matches past order routes)

    matches_with : (past : List Item) (item : Item) (rs : List Route) (items : List Item)
        → matches_after m span own past (cons_option (with_routes item rs) items)
        ≡ filter_map (match_by m span own past item.order) rs ++ matches_after m span own (cons_option (with_routes item rs) past) items
    matches_with past item [] items = refl
    matches_with past item (r ∷ rs) items = refl

    -- the matches of a part's keys are those by the items routed to it
    pub matches_routed : (past items : List Item)
        → filter match_of_part (matches_after m span openings past items) ≡ matches_after m span own (routed_items part p past) (routed_items part p items)
    matches_routed past [] = refl
    matches_routed past (item ∷ items) =
        filter-append match_of_part (filter_map (match_by m span openings past item.order) item.routes) (matches_after m span openings (item ∷ past) items)
        ∙ (λ i. kept_matches past item.order item.routes i ++ matches_routed (item ∷ past) items i)
        ∙ sym (matches_with (routed_items part p past) item (filter of_part item.routes) (routed_items part p items))

agree_self : (part : List Value → ℕ) (p : ℕ) (openings : Openings) → Agree part p openings openings
agree_self part p openings key stage here = refl

module _ (part : List Value → ℕ) (p : ℕ) where
  abbrev pub slot_of_part : Slot → Bool
  slot_of_part s = part s.0 == p

  pub holders_where : (holders : List Holder) → map by_slot (holders_in part p holders) ≡ where_key slot_cmp slot_of_part (map by_slot holders)
  holders_where holders = map_filter by_slot (λ h. part h.key == p) (λ e. part e.0.0 == p) (λ h. refl) holders

  entries_where : (es : List Entry) → map holder_of (where_key slot_cmp slot_of_part es) ≡ holders_in part p (map holder_of es)
  entries_where es = map_filter holder_of (λ e. part e.0.0 == p) (λ h. part h.key == p) (λ e. refl) es

  pub find_where : (q : Slot) (es : List Entry) → find_entry slot_cmp q (where_key slot_cmp slot_of_part es) ≡ cond (part q.0 == p) (find_entry slot_cmp q es) None
  find_where q es = find-where_key slot_cmp slot_of_part q (λ x e. ap slot_of_part (sym (slot_same q x e))) es

  -- a part's holders have what there is at the part's keys
  pub opening_in : (holders : List Holder) (key : List Value) (stage : ℕ)
      → opening_of (holders_in part p holders) key stage ≡ cond (part key == p) (opening_of holders key stage) None
  opening_in holders key stage =
      ap (find_entry slot_cmp (key, stage)) (holders_where holders) ∙ find_where (key, stage) (map by_slot holders)

  own_agree : (holders : List Holder) → Agree part p (opening_of holders) (opening_of (holders_in part p holders))
  own_agree holders key stage here =
      sym (opening_in holders key stage ∙ ap (λ (b : Bool). cond b (opening_of holders key stage) None) here)

  onto_with : (rs : List Route) (item : Item) (items past : List Item)
      → onto (cons_option (with_routes item rs) items) past ≡ onto items (cons_option (with_routes item rs) past)
  onto_with [] item items past = refl
  onto_with (r ∷ rs) item items past = refl

  routed_onto : (items past : List Item) → onto (routed_items part p items) (routed_items part p past) ≡ routed_items part p (onto items past)
  routed_onto [] past = refl
  routed_onto (item ∷ items) past =
      onto_with (filter (of_part part p) item.routes) item (routed_items part p items) (routed_items part p past) ∙ routed_onto items (item ∷ past)

  none_one : (key : List Value) (r : Route) (found : List Route) (a b : Bool) → key_eq key r.key ≡ a → of_part part p r ≡ b → (part key == p) ≡ false
      → find (λ (r : Route). key_eq key r.key) found ≡ None
      → find (λ (r : Route). key_eq key r.key) (cond b (r ∷ found) found) ≡ None
  none_one key r found true true e f away none =
      let here : (part r.key == p) ≡ false = ap (λ (k : List Value). part k == p) (sym (key_same key r.key (is_equal (key_cmp key r.key) e))) ∙ away in cc
  none_one key r found false true e f away none = ap (λ (x : Bool). cond x (Some r) (find (λ (r : Route). key_eq key r.key) found)) e ∙ none
  none_one key r found a false e f away none = none

  -- a key of another part is found nowhere among the part's routes
  none_in_part : (key : List Value) (routes : List Route) → (part key == p) ≡ false
      → find (λ (r : Route). key_eq key r.key) (filter (of_part part p) routes) ≡ None
  none_in_part key [] away = refl
  none_in_part key (r ∷ routes) away =
      none_one key r (filter (of_part part p) routes) (key_eq key r.key) (of_part part p r) refl refl away (none_in_part key routes away)

  no_key_events_away : (key : List Value) (past : List Item) → (part key == p) ≡ false → key_events_of key (routed_items part p past) ≡ []
  no_key_events_away key [] away = refl
  no_key_events_away key (item ∷ past) away =
      key_events_with part p key item (filter (of_part part p) item.routes) (routed_items part p past)
      ∙ (λ i. cons_option (option_map (key_event_by item.order) (none_in_part key item.routes away i)) (no_key_events_away key past away i))

  module _ (span : Option ℤ) (holders : List Holder) (items : List Item) where
    held_one : (key : List Value) (stage : ℕ) (b : Bool) → (part key == p) ≡ b
        → held_after span (opening_of (holders_in part p holders)) (routed_items part p items) key (suc stage)
        ≡ cond b (held_after span (opening_of holders) items key (suc stage)) None
    held_one key stage true here =
        ap (λ (past : List Item). holder span (opening_of (holders_in part p holders) key) (suc stage) (key_events_of key past)) (routed_onto items [])
        ∙ ap (holder span (opening_of (holders_in part p holders) key) (suc stage)) (key_events_routed part p key (onto items []) here)
        ∙ sym (λ i. holder span (λ k. own_agree holders key k here i) (suc stage) (key_events_of key (onto items [])))
    held_one key stage false away =
        ap (λ (past : List Item). holder span (opening_of (holders_in part p holders) key) (suc stage) (key_events_of key past)) (routed_onto items [])
        ∙ ap (holder span (opening_of (holders_in part p holders) key) (suc stage)) (no_key_events_away key (onto items []) away)
        ∙ holder_start span (opening_of (holders_in part p holders) key) stage
        ∙ opening_in holders key (suc stage)
        ∙ ap (λ (b : Bool). cond b (opening_of holders key (suc stage)) None) away

  guarded : (b c : Bool) (o : Option (List OrderKey)) → cond b (cond c o None) None ≡ cond c (cond b o None) None
  guarded true c o = refl
  guarded false c o = sym (both_none c)

  held_slot : (span : Option ℤ) (holders : List Holder) (items : List Item) (n : ℕ) (q : Slot)
      → up_to n (held_after span (opening_of (holders_in part p holders)) (routed_items part p items)) q
      ≡ cond (part q.0 == p) (up_to n (held_after span (opening_of holders) items) q) None
  held_slot span holders items n (key, zero) = sym (both_none (part key == p))
  held_slot span holders items n (key, suc stage) =
      ap (λ (o : Option (List OrderKey)). cond (nat_lt 0 (suc stage) && nat_le (suc stage) n) o None) (held_one span holders items key stage (part key == p) refl)
      ∙ guarded (nat_lt 0 (suc stage) && nat_le (suc stage) n) (part key == p) (held_after span (opening_of holders) items key (suc stage))

  -- what is pending of a part's keys is what is pending after the part's items from the part's pending sequences
  pub after_routed : (m : ℕ) (span : Option ℤ) (holders : List Holder) (items : List Item)
      → after m span (holders_in part p holders) (routed_items part p items) ≡ holders_in part p (after m span holders items)
  after_routed m span holders items =
      ap (map holder_of) (same_entries slot_cmp slot_cmp_total slot_same
      (in_order slot_cmp (all_entries m span (holders_in part p holders) (routed_items part p items)))
      (where_key slot_cmp slot_of_part (in_order slot_cmp (all_entries m span holders items)))
      (in_order-sorted slot_cmp slot_cmp_total (all_entries m span (holders_in part p holders) (routed_items part p items)))
      (is_sorted-where_key slot_cmp slot_of_part (in_order slot_cmp (all_entries m span holders items))
      (in_order-sorted slot_cmp slot_cmp_total (all_entries m span holders items)))
      (λ q. find-held m span (holders_in part p holders) (routed_items part p items) q
      ∙ held_slot span holders items (m - 1) q
      ∙ sym (find_where q (in_order slot_cmp (all_entries m span holders items))
      ∙ ap (λ (o : Option (List OrderKey)). cond (part q.0 == p) o None) (find-held m span holders items q))))
      ∙ entries_where (in_order slot_cmp (all_entries m span holders items))

  -- the matches of a part's keys are those by the items routed to it
  pub routed_matches : (m : ℕ) (span : Option ℤ) (holders : List Holder) (items : List Item)
      → matches m span holders (routed_items part p items) ≡ matches_in part p (matches m span holders items)
  routed_matches m span holders items =
      sym (matches_routed part p m span (opening_of holders) (opening_of holders) (agree_self part p (opening_of holders)) [] items)

  -- and a part needs its own holders alone
  pub own_holders : (m : ℕ) (span : Option ℤ) (holders : List Holder) (items : List Item)
      → matches m span (holders_in part p holders) (routed_items part p items) ≡ matches m span holders (routed_items part p items)
  own_holders m span holders items =
      sym (matches_routed part p m span (opening_of holders) (opening_of (holders_in part p holders)) (own_agree holders) [] items)
      ∙ sym (routed_matches m span holders items)

  pub part_apart : (m : ℕ) (span : Option ℤ) (holders : List Holder) (a b : List Item)
      → matches m span (after m span (holders_in part p holders) (routed_items part p a)) (routed_items part p b)
      ≡ matches m span (after m span holders a) (routed_items part p b)
  part_apart m span holders a b =
      ap (λ (h : List Holder). matches m span h (routed_items part p b)) (after_routed m span holders a) ∙ own_holders m span (after m span holders a) b
