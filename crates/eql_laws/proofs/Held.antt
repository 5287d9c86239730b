-- The list of pending sequences has what the look-back gives, each at its key and stage.
use Rattle.std.proofs.Common.{◌≡◌, ℕ, zero, suc, ◌-◌, ℤ, Bool, true, false, cond, List, [], ◌∷◌, map, Option, Some, None, refl, sym, ap, ◌∙◌, arith}
use Rattle.std.proofs.lemmas.List.Folds.{list_any-append}
use Rattle.eql_laws.proofs.Lists.{map_back}
use Rattle.eql_laws.proofs.Stepping.{holder_start}
use Rattle.eql_laws.proofs.Facts.{any_false, is_equal, ties_both, both_equal}
use Rattle.eql_laws.specs.Merging.{by_slot, holder_of}
use Rattle.std.proofs.lemmas.List.Elements.{filter_map-append}
use Rattle.std.proofs.lemmas.Bool.Decides.{nat_tests}
use Rattle.std.specs.List.{cons_option}
use Rattle.std.specs.Prelude.{◌&&◌, ◌||◌, if◌then◌else◌, find, nat_le, nat_lt}
use Rattle.std.specs.List.{filter_map, flat_map, list_any}
use Rattle.std.specs.Option.{option_map}
use Rattle.std.specs.Ordering.{nat_cmp, eq_by_cmp, is_eq}
use Rattle.std.specs.Cmp.{IsTotalOrder}
use Rattle.std.specs.FinMap.{IsAntisymmetric, nat_cmp-IsAntisymmetric}
use Rattle.std.specs.FinMap.Entries.{find as find_entry}
use Rattle.std.proofs.lemmas.Cmp.{on_total, then_total, nat_cmp_total}
use Rattle.eql_values.specs.declared.order.OrderKey.{OrderKey}
use Rattle.eql_values.specs.declared.value.Value.{Value}
use Rattle.eql_values.specs.declared.item.Route.{Route}
use Rattle.eql_values.specs.declared.item.Item.{Item}
use Rattle.eql_values.specs.declared.found.Holder.{Holder}
use Rattle.eql_values.specs.declared.item.KeyEvent.{KeyEvent}
use Rattle.eql_values.specs.Chains.{holder}
use Rattle.eql_values.specs.Ordered.{in_order, found_or}
use Rattle.eql_values.proofs.InOrder.{both_none, find-append, find-in_order}
use Rattle.eql_values.specs.Orders.{key_eq, key_cmp}
use Rattle.eql_values.specs.Totals.{key_cmp_total}
use Rattle.eql_values.proofs.Same.{key_same}
use Rattle.eql_values.specs.Matching.{Openings, Slot, slot_cmp, key_event_by, key_events_of, onto, opening_of, held_after, stages_to, entries_of, keys_in, after}

abbrev pub Entry : Type 0
Entry = Slot × List OrderKey

pub slot_cmp_total : IsTotalOrder slot_cmp
slot_cmp_total = then_total (on_total (λ s. s.0) key_cmp_total) (on_total (λ s. s.1) nat_cmp_total)

-- slots that compare as equal are equal
pub slot_same : IsAntisymmetric slot_cmp
slot_same x y e =
    let both = both_equal (key_cmp x.0 y.0) (nat_cmp x.1 y.1) e in
    λ i. (key_same x.0 y.0 both.0 i, nat_cmp-IsAntisymmetric x.1 y.1 both.1 i)

-- what there is of all slots after the items
abbrev pub all_entries : ℕ → Option ℤ → List Holder → List Item → List Entry
all_entries m span holders items = flat_map (entries_of m (held_after span (opening_of holders) items)) (keys_in holders items)

-- what there is of a slot, at the stages up to n
abbrev pub up_to : ℕ → Openings → Slot → Option (List OrderKey)
up_to n slots q = if nat_lt 0 q.1 && nat_le q.1 n then slots q.0 q.1 else None

found_one : (key : List Value) (stage : ℕ) (q : Slot) (o : Option (List OrderKey))
    → find_entry slot_cmp q (cons_option (option_map (λ c. ((key, stage), c)) o) []) ≡ cond (eq_by_cmp slot_cmp q (key, stage)) o None
found_one key stage q None = sym (both_none (eq_by_cmp slot_cmp q (key, stage)))
found_one key stage q (Some c) = refl

same_slot : (slots : Openings) (key : List Value) (stage : ℕ) (q : Slot) (a b : Bool) → key_eq q.0 key ≡ a → is_eq (nat_cmp q.1 stage) ≡ b
    → cond (a && b) (slots key stage) None ≡ cond (a && b) (slots q.0 q.1) None
same_slot slots key stage q true true k s =
    let keys = sym (key_same q.0 key (is_equal (key_cmp q.0 key) k)) in
    let stages = sym (nat_cmp-IsAntisymmetric q.1 stage (is_equal (nat_cmp q.1 stage) s)) in
    λ i. slots (keys i) (stages i)
same_slot slots key stage q true false k s = refl
same_slot slots key stage q false b k s = refl

find-one : (slots : Openings) (key : List Value) (stage : ℕ) (q : Slot)
    → find_entry slot_cmp q (cons_option (option_map (λ c. ((key, stage), c)) (slots key stage)) [])
    ≡ cond (key_eq q.0 key && is_eq (nat_cmp q.1 stage)) (slots q.0 q.1) None
find-one slots key stage q =
    found_one key stage q (slots key stage)
    ∙ ap (λ (b : Bool). cond b (slots key stage) None) (ties_both (key_cmp q.0 key) (nat_cmp q.1 stage))
    ∙ same_slot slots key stage q (key_eq q.0 key) (is_eq (nat_cmp q.1 stage)) refl refl

stage_more : (q n : ℕ) (S : Option (List OrderKey))
    → found_or (cond (nat_lt 0 q && nat_le q n) S None) (cond (is_eq (nat_cmp q (suc n))) S None) ≡ cond (nat_lt 0 q && nat_le q (suc n)) S None
stage_more q n S = grind (arith, nat_tests)

no_stage : (q : ℕ) → (nat_lt 0 q && nat_le q 0) ≡ false
no_stage q = grind (arith, nat_tests)

one_key : (a b : Bool) (x y z S : Option (List OrderKey)) → x ≡ cond a y None → found_or y (cond b S None) ≡ z → found_or x (cond (a && b) S None) ≡ cond a z None
one_key true b x y z S e f = ap (λ (o : Option (List OrderKey)). found_or o (cond b S None)) e ∙ f
one_key false b x y z S e f = ap (λ (o : Option (List OrderKey)). found_or o None) e

abbrev entry_at : Openings → List Value → ℕ → Option Entry
entry_at slots key stage = option_map (λ c. ((key, stage), c)) (slots key stage)

-- the entries of one key
find-entries : (slots : Openings) (key : List Value) (q : Slot) (n : ℕ)
    → find_entry slot_cmp q (filter_map (entry_at slots key) (stages_to n)) ≡ cond (key_eq q.0 key) (up_to n slots q) None
find-entries slots key q zero = sym (ap (λ (b : Bool). cond (key_eq q.0 key) (cond b (slots q.0 q.1) None) None) (no_stage q.1) ∙ both_none (key_eq q.0 key))
find-entries slots key q (suc n) =
    ap (find_entry slot_cmp q) (filter_map-append (entry_at slots key) (stages_to n) (suc n ∷ []))
    ∙ find-append slot_cmp q (filter_map (entry_at slots key) (stages_to n)) (filter_map (entry_at slots key) (suc n ∷ []))
    ∙ ap (λ (o : Option (List OrderKey)). found_or (find_entry slot_cmp q (filter_map (entry_at slots key) (stages_to n))) o) (find-one slots key (suc n) q)
    ∙ one_key (key_eq q.0 key) (is_eq (nat_cmp q.1 (suc n))) _ (up_to n slots q) _ (slots q.0 q.1) (find-entries slots key q n) (stage_more q.1 n (slots q.0 q.1))

any_key : (a b : Bool) (U : Option (List OrderKey)) → found_or (cond a U None) (cond b U None) ≡ cond (a || b) U None
any_key false b U = refl
any_key true b None = both_none b
any_key true b (Some c) = refl

-- the entries of several keys
find-keys : (slots : Openings) (m : ℕ) (q : Slot) (keys : List (List Value))
    → find_entry slot_cmp q (flat_map (entries_of m slots) keys) ≡ cond (list_any (key_eq q.0) keys) (up_to (m - 1) slots q) None
find-keys slots m q [] = refl
find-keys slots m q (key ∷ keys) =
    find-append slot_cmp q (entries_of m slots key) (flat_map (entries_of m slots) keys)
    ∙ (λ i. found_or (find-entries slots key q (m - 1) i) (find-keys slots m q keys i))
    ∙ any_key (key_eq q.0 key) (list_any (key_eq q.0) keys) (up_to (m - 1) slots q)

-- a key that no holder has
no_opening : (holders : List Holder) (key : List Value) (stage : ℕ) → list_any (key_eq key) (map (λ (h : Holder). h.key) holders) ≡ false
    → opening_of holders key stage ≡ None
no_opening [] key stage e = refl
no_opening (h ∷ holders) key stage e =
    let apart = any_false _ _ e in
    ap (λ (b : Bool). cond b (Some h.chain) (opening_of holders key stage))
    (ties_both (key_cmp key h.key) (nat_cmp stage h.stage) ∙ ap (λ (b : Bool). b && is_eq (nat_cmp stage h.stage)) apart.0)
    ∙ no_opening holders key stage apart.1

no_route : (routes : List Route) (key : List Value) → list_any (key_eq key) (map (λ (r : Route). r.key) routes) ≡ false
    → find (λ (r : Route). key_eq key r.key) routes ≡ None
no_route [] key e = refl
no_route (r ∷ routes) key e =
    let apart = any_false _ _ e in
    ap (λ (b : Bool). cond b (Some r) (find (λ (r : Route). key_eq key r.key) routes)) apart.0 ∙ no_route routes key apart.1

abbrev route_keys : Item → List (List Value)
route_keys item = map (λ (r : Route). r.key) item.routes

no_key_events : (items past : List Item) (key : List Value) → list_any (key_eq key) (flat_map route_keys items) ≡ false
    → key_events_of key past ≡ [] → key_events_of key (onto items past) ≡ []
no_key_events [] past key e none = none
no_key_events (item ∷ items) past key e none =
    let apart = any_false _ _ (sym (list_any-append (key_eq key) (route_keys item) (flat_map route_keys items)) ∙ e) in
    no_key_events items (item ∷ past) key apart.1
    (ap (λ (o : Option Route). cons_option (option_map (key_event_by item.order) o) (key_events_of key past)) (no_route item.routes key apart.0) ∙ none)

-- a key that nothing has
no_holder : (span : Option ℤ) (holders : List Holder) (items : List Item) (key : List Value) (k : ℕ)
    → list_any (key_eq key) (keys_in holders items) ≡ false → held_after span (opening_of holders) items key (suc k) ≡ None
no_holder span holders items key k e =
    let apart = any_false _ _ (sym (list_any-append (key_eq key) (map (λ (h : Holder). h.key) holders) (flat_map route_keys items)) ∙ e) in
    ap (λ (key_events : List KeyEvent). holder span (opening_of holders key) (suc k) key_events) (no_key_events items [] key apart.1 refl)
    ∙ holder_start span (opening_of holders key) k
    ∙ no_opening holders key (suc k) apart.0

-- so each key that has something is among the keys
all_keys : (span : Option ℤ) (holders : List Holder) (items : List Item) (q : Slot) (n : ℕ)
    → cond (list_any (key_eq q.0) (keys_in holders items)) (up_to n (held_after span (opening_of holders) items) q) None
    ≡ up_to n (held_after span (opening_of holders) items) q
all_keys span holders items (key, zero) n = both_none (list_any (key_eq key) (keys_in holders items))
all_keys span holders items (key, suc k) n =
    elim (list_any (key_eq key) (keys_in holders items)) as (λ b. list_any (key_eq key) (keys_in holders items) ≡ b
    → cond b (up_to n (held_after span (opening_of holders) items) (key, suc k)) None ≡ up_to n (held_after span (opening_of holders) items) (key, suc k)) [
      | true ↦ λ e. refl
      | false ↦ λ e. sym (ap (λ (o : Option (List OrderKey)). if nat_lt 0 (suc k) && nat_le (suc k) n then o else None) (no_holder span holders items key k e) ∙ both_none (nat_lt 0 (suc k) && nat_le (suc k) n))
    ] refl

-- what there is of a slot in the list in order
pub find-held : (m : ℕ) (span : Option ℤ) (holders : List Holder) (items : List Item) (q : Slot)
    → find_entry slot_cmp q (in_order slot_cmp (flat_map (entries_of m (held_after span (opening_of holders) items)) (keys_in holders items)))
    ≡ up_to (m - 1) (held_after span (opening_of holders) items) q
find-held m span holders items q =
    find-in_order slot_cmp slot_cmp_total q (flat_map (entries_of m (held_after span (opening_of holders) items)) (keys_in holders items))
    ∙ find-keys (held_after span (opening_of holders) items) m q (keys_in holders items)
    ∙ all_keys span holders items q (m - 1)

-- what the list after the items has of a slot
pub find-after : (m : ℕ) (span : Option ℤ) (holders : List Holder) (items : List Item) (q : Slot)
    → find_entry slot_cmp q (map by_slot (after m span holders items)) ≡ up_to (m - 1) (held_after span (opening_of holders) items) q
find-after m span holders items q =
    ap (find_entry slot_cmp q) (map_back by_slot holder_of (λ e. refl) (in_order slot_cmp (flat_map (entries_of m (held_after span (opening_of holders) items)) (keys_in holders items))))
    ∙ find-held m span holders items q
