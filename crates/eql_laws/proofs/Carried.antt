-- What is carried from event to event: a fact of pending sequences that each step keeps holds of all that come, and of the matches.
use Rattle.std.proofs.Common.{◌≡◌, ◌<◌, ◌≤◌, ℕ, zero, suc, ◌-◌, ℤ, Bool, true, false, cond, List, [], ◌∷◌, ◌++◌, Option, Some, None, refl, sym, subst, arith}
use Rattle.std.specs.Prelude.{All, IfSome, find, not, ◌&&◌, ◌||◌}
use Rattle.std.specs.List.{filter_map, cons_option}
use Rattle.std.specs.Option.{option_map}
use Rattle.std.specs.Ordering.{eq_by_cmp}
use Rattle.std.proofs.lemmas.List.Elements.{All-nil, All-cons, All-head, All-tail, All-append, All-map, All-weaker}
use Rattle.eql_values.specs.declared.order.OrderKey.{OrderKey}
use Rattle.eql_values.specs.declared.value.Value.{Value}
use Rattle.eql_values.specs.declared.item.KeyEvent.{KeyEvent}
use Rattle.eql_values.specs.declared.item.Route.{Route}
use Rattle.eql_values.specs.declared.item.Item.{Item}
use Rattle.eql_values.specs.declared.found.Match.{Match}
use Rattle.eql_values.specs.declared.found.Holder.{Holder}
use Rattle.eql_values.specs.Chains.{fits_after, in_time, chain, holder}
use Rattle.eql_values.specs.Orders.{key_eq}
use Rattle.eql_values.specs.Ordered.{found_or, in_order}
use Rattle.eql_values.specs.Matching.{Openings, Slot, slot_cmp, key_event_by, key_events_of, onto, opening_of, held_after, stages_to, entries_of, keys_in, after, match_by, matches_after}
use Rattle.eql_laws.specs.Slots.{Slots, chain_moved_on, chain_coming, slots_after}
use Rattle.eql_laws.specs.Merging.{holder_of}
use Rattle.eql_laws.proofs.Stepping.{chain_step, holder_step, holder_start}
use Rattle.eql_laws.proofs.Elements.{All-filter_map, All-flat_map, All-in_order}
use Rattle.eql_laws.proofs.Facts.{is_equal}
use Rattle.eql_laws.proofs.Held.{Entry, slot_same, all_entries}

if_found : (P : List OrderKey → Type 0) (a b : Option (List OrderKey)) → IfSome a P → IfSome b P → IfSome (found_or a b) P
if_found P None b h k = k
if_found P (Some c) b h k = h

if_then : (P : List OrderKey → Type 0) (b : Bool) (o : Option (List OrderKey)) → IfSome o P → IfSome (cond b o None) P
if_then P true o h = h
if_then P false o h = tt

if_else : (P : List OrderKey → Type 0) (b : Bool) (o : Option (List OrderKey)) → IfSome o P → IfSome (cond b None o) P
if_else P true o h = tt
if_else P false o h = h

-- what holds of the value of an option holds by what its value gives
pub if_more : (P Q : List OrderKey → Type 0) (o : Option (List OrderKey)) → ((c : List OrderKey) → P c → Q c) → IfSome o P → IfSome o Q
if_more P Q None gives h = tt
if_more P Q (Some c) gives h = gives c h

pub if_all : (P : List OrderKey → Type 0) (o : Option (List OrderKey)) → ((c : List OrderKey) → o ≡ Some c → P c) → IfSome o P
if_all P None gives = tt
if_all P (Some c) gives = gives c refl

-- the first event of items, where there is one
abbrev pub first_of : List Item → Option OrderKey
first_of [] = None
first_of (item ∷ items) = Some item.order

-- each of the items is such a one before the next
abbrev pub Rises : (OrderKey → Option OrderKey → Type 0) → List Item → Type 0
Rises Before [] = Unit {0}
Rises Before (item ∷ items) = Before item.order (first_of items) × Rises Before items

-- `Held bound k c` is the fact of a sequence at stage k, before an event that may be to come; `Made event k c` is that of a chain that ends
-- with this event; and `Before event bound` is what is known of an event and of one that may be to come
module _
    (Before : OrderKey → Option OrderKey → Type 0)
    (Held : Option OrderKey → ℕ → List OrderKey → Type 0)
    (Made : OrderKey → ℕ → List OrderKey → Type 0)
    (single : (x : OrderKey) → Made x 1 (x ∷ []))
    (extend : (x : OrderKey) (k : ℕ) (c : List OrderKey) → Held (Some x) (suc k) c → Made x (suc (suc k)) (c ++ x ∷ []))
    (later : (x : OrderKey) (bound : Option OrderKey) (k : ℕ) (c : List OrderKey) → Made x k c → Before x bound → Held bound k c)
    (weaken : (x : OrderKey) (bound : Option OrderKey) (k : ℕ) (c : List OrderKey) → Held (Some x) k c → Before x bound → Held bound k c)
    (trans : (x y : OrderKey) (bound : Option OrderKey) → Before x (Some y) → Before y bound → Before x bound)
    (span : Option ℤ) where
  -- all slots have the fact
  abbrev pub AllHeld : Option OrderKey → Slots → Type 0
  AllHeld bound slots = (k : ℕ) → IfSome (slots (suc k)) (Held bound (suc k))

  moved_made : (item : KeyEvent) (k : ℕ) (o : Option (List OrderKey)) → IfSome o (Held (Some item.order) (suc k)) → IfSome (chain_moved_on span o item) (Made item.order (suc (suc k)))
  moved_made item k None h = tt
  moved_made item k (Some c) h =
      if_then (Made item.order (suc (suc k))) (in_time span c item.order.ts) (Some (c ++ item.order ∷ [])) (extend item.order k c h)

  arrived_made : (item : KeyEvent) (slots : Slots) → AllHeld (Some item.order) slots → (k : ℕ) → IfSome (chain_coming span slots item k) (Made item.order k)
  arrived_made item slots h zero = tt
  arrived_made item slots h (suc zero) = if_then (Made item.order 1) (fits_after 0 item) (Some (item.order ∷ [])) (single item.order)
  arrived_made item slots h (suc (suc k)) =
      if_then (Made item.order (suc (suc k))) (fits_after (suc k) item && not item.until) (chain_moved_on span (slots (suc k)) item) (moved_made item k (slots (suc k)) (h k))

  stepped_held : (item : KeyEvent) (bound : Option OrderKey) (slots : Slots) → AllHeld (Some item.order) slots → Before item.order bound → AllHeld bound (slots_after span slots item)
  stepped_held item bound slots h before k =
      if_found (Held bound (suc k)) (chain_coming span slots item (suc k)) (cond (fits_after (suc k) item || item.until) None (slots (suc k)))
      (if_more (Made item.order (suc k)) (Held bound (suc k)) (chain_coming span slots item (suc k)) (λ c made. later item.order bound (suc k) c made before) (arrived_made item slots h (suc k)))
      (if_else (Held bound (suc k)) (fits_after (suc k) item || item.until) (slots (suc k))
      (if_more (Held (Some item.order) (suc k)) (Held bound (suc k)) (slots (suc k)) (λ c held. weaken item.order bound (suc k) c held before) (h k)))

  module _ (opening : Slots) where
    -- the past leads up to an event that may be to come, from opening sequences with the fact
    abbrev pub LeadsTo : Option OrderKey → List KeyEvent → Type 0
    LeadsTo bound [] = AllHeld bound opening
    LeadsTo bound (item ∷ past) = Before item.order bound × LeadsTo (Some item.order) past

    pub leads_on : (x : OrderKey) (bound : Option OrderKey) (past : List KeyEvent) → LeadsTo (Some x) past → Before x bound → LeadsTo bound past
    leads_on x bound [] h before = λ k. if_more (Held (Some x) (suc k)) (Held bound (suc k)) (opening (suc k)) (λ c held. weaken x bound (suc k) c held before) (h k)
    leads_on x bound (item ∷ past) h before = (trans item.order x bound h.0 before, h.1)

    pub all_held : (bound : Option OrderKey) (past : List KeyEvent) → LeadsTo bound past → AllHeld bound (λ k. holder span opening k past)
    all_held bound [] h k = subst (λ (o : Option (List OrderKey)). IfSome o (Held bound (suc k))) (sym (holder_start span opening k)) (h k)
    all_held bound (item ∷ past) h k =
        subst (λ (o : Option (List OrderKey)). IfSome o (Held bound (suc k))) (sym (holder_step span opening (suc k) item past))
        (stepped_held item bound (λ j. holder span opening j past) (all_held (Some item.order) past h.1) h.0 k)

    pub chain_made : (item : KeyEvent) (past : List KeyEvent) → LeadsTo (Some item.order) past → (k : ℕ) → IfSome (chain span opening k (item ∷ past)) (Made item.order k)
    chain_made item past h k =
        subst (λ (o : Option (List OrderKey)). IfSome o (Made item.order k)) (sym (chain_step span opening k item past))
        (arrived_made item (λ j. holder span opening j past) (all_held (Some item.order) past h) k)

  -- the same of items, latest first, with the openings of all keys
  module _ (openings : Openings) where
    abbrev pub ItemsLead : Option OrderKey → List Item → Type 0
    ItemsLead bound [] = (key : List Value) → AllHeld bound (openings key)
    ItemsLead bound (item ∷ past) = Before item.order bound × ItemsLead (Some item.order) past

    pub key_events_lead : (key : List Value) (bound : Option OrderKey) (past : List Item) → ItemsLead bound past → LeadsTo (openings key) bound (key_events_of key past)
    key_events_lead key bound [] h = h key
    key_events_lead key bound (item ∷ past) h =
        one (find (λ (route : Route). key_eq key route.key) item.routes) (key_events_lead key (Some item.order) past h.1)
      where
        one : (o : Option Route) → LeadsTo (openings key) (Some item.order) (key_events_of key past)
            → LeadsTo (openings key) bound (cons_option (option_map (key_event_by item.order) o) (key_events_of key past))
        one None rest = leads_on (openings key) item.order bound (key_events_of key past) rest h.0
        one (Some r) rest = (h.0, rest)

    pub lead_onto : (items more past : List Item) → ItemsLead (first_of (items ++ more)) past → Rises Before (items ++ more) → ItemsLead (first_of more) (onto items past)
    lead_onto [] more past h rises = h
    lead_onto (item ∷ items) more past h rises = lead_onto items more (item ∷ past) (rises.0, h) rises.1

    pub after_held : (items more : List Item) → ((key : List Value) → AllHeld (first_of (items ++ more)) (openings key)) → Rises Before (items ++ more)
        → (key : List Value) → AllHeld (first_of more) (held_after span openings items key)
    after_held items more h rises key =
        all_held (openings key) (first_of more) (key_events_of key (onto items [])) (key_events_lead key (first_of more) (onto items []) (lead_onto items more [] h rises))

    module _ (m : ℕ) (Q : Match → Type 0) (gives : (key : List Value) (x : OrderKey) (bound : Option OrderKey) (c : List OrderKey) → Made x m c → Before x bound → Q (record { key = key; chain = c })) where
      match_if : (key : List Value) (x : OrderKey) (bound : Option OrderKey) (o : Option (List OrderKey)) → IfSome o (Made x m) → Before x bound
          → IfSome (option_map (λ c. let found : Match = record { key = key; chain = c } in found) o) Q
      match_if key x bound None h before = tt
      match_if key x bound (Some c) h before = gives key x bound c h before

      pub matches_made : (past items : List Item) → ItemsLead (first_of items) past → Rises Before items → All Q (matches_after m span openings past items)
      matches_made past [] h rises = All-nil Q
      matches_made past (item ∷ items) h rises =
          All-append Q (filter_map (match_by m span openings past item.order) item.routes) (matches_after m span openings (item ∷ past) items)
          (of_routes item.routes) (matches_made (item ∷ past) items (rises.0, h) rises.1)
        where
          of_routes : (routes : List Route) → All Q (filter_map (match_by m span openings past item.order) routes)
          of_routes routes =
              All-filter_map (λ (r : Route). Unit {0}) Q (match_by m span openings past item.order)
              (λ r u. match_if r.key item.order (first_of items) (chain span (openings r.key) m (key_event_by item.order r ∷ key_events_of r.key past))
              (chain_made (openings r.key) (key_event_by item.order r) (key_events_of r.key past) (key_events_lead r.key (Some item.order) past h) m) rises.0)
              routes (λ k d lt. tt)

-- what a look-up of openings finds is the chain of one of the holders
pub opening_is : (P : Holder → Type 0) (holders : List Holder) → All P holders → (key : List Value) (stage : ℕ)
    → IfSome (opening_of holders key stage) (λ c. P (record { key = key; stage = stage; chain = c }))
opening_is P [] h key stage = tt
opening_is P (x ∷ holders) h key stage = one (eq_by_cmp slot_cmp (key, stage) (x.key, x.stage)) refl (opening_is P holders (All-tail P x holders h) key stage)
  where
    one : (b : Bool) → eq_by_cmp slot_cmp (key, stage) (x.key, x.stage) ≡ b → IfSome (opening_of holders key stage) (λ c. P (record { key = key; stage = stage; chain = c }))
        → IfSome (cond b (Some x.chain) (opening_of holders key stage)) (λ c. P (record { key = key; stage = stage; chain = c }))
    one true e rest =
        let same = sym (slot_same (key, stage) (x.key, x.stage) (is_equal (slot_cmp (key, stage) (x.key, x.stage)) e)) in
        subst (λ (s : Slot). P (record { key = s.0; stage = s.1; chain = x.chain })) same (All-head P x holders h)
    one false e rest = rest

numbers_in : (n : ℕ) → All (λ (stage : ℕ). (1 ≤ stage) × (stage ≤ n)) (stages_to n)
numbers_in zero = All-nil (λ (stage : ℕ). (1 ≤ stage) × (stage ≤ 0))
numbers_in (suc n) =
    All-append (λ (stage : ℕ). (1 ≤ stage) × (stage ≤ suc n)) (stages_to n) (suc n ∷ [])
    (All-weaker (λ (stage : ℕ). (1 ≤ stage) × (stage ≤ n)) (λ (stage : ℕ). (1 ≤ stage) × (stage ≤ suc n)) (λ stage h. (h.0, (let a = h.1 in omega (arith, a)))) (stages_to n) (numbers_in n))
    (All-cons (λ (stage : ℕ). (1 ≤ stage) × (stage ≤ suc n)) (suc n) [] ((omega arith, omega arith)) (All-nil (λ (stage : ℕ). (1 ≤ stage) × (stage ≤ suc n))))

-- what holds of each key and stage after the items holds of the list of what is pending
pub after_all : (m : ℕ) (span : Option ℤ) (holders : List Holder) (items : List Item) (K : List Value → Type 0) (Q : Holder → Type 0) → All K (keys_in holders items)
    → ((key : List Value) (k : ℕ) → K key → suc k < m → IfSome (held_after span (opening_of holders) items key (suc k)) (λ c. Q (record { key = key; stage = suc k; chain = c })))
    → All Q (after m span holders items)
after_all m span holders items K Q keys gives =
    All-map Q holder_of (in_order slot_cmp (all_entries m span holders items))
    (All-in_order slot_cmp slot_same (λ (e : Entry). Q (holder_of e)) (all_entries m span holders items)
    (All-flat_map K (λ (e : Entry). Q (holder_of e)) (entries_of m (held_after span (opening_of holders) items)) of_key (keys_in holders items) keys))
  where
    entry_if : (key : List Value) (stage : ℕ) (o : Option (List OrderKey)) → IfSome o (λ c. Q (record { key = key; stage = stage; chain = c }))
        → IfSome (option_map (λ c. let e : Entry = ((key, stage), c) in e) o) (λ (e : Entry). Q (holder_of e))
    entry_if key stage None h = tt
    entry_if key stage (Some c) h = h

    of_stage : (key : List Value) → K key → (stage : ℕ) → (1 ≤ stage) × (stage ≤ (m - 1))
        → IfSome (option_map (λ c. let e : Entry = ((key, stage), c) in e) (held_after span (opening_of holders) items key stage)) (λ (e : Entry). Q (holder_of e))
    of_stage key is zero h = absurd (let a = h.0 in omega (arith, a))
    of_stage key is (suc k) h = entry_if key (suc k) (held_after span (opening_of holders) items key (suc k)) (gives key k is (let a = h.1 in omega (arith, a)))

    of_key : (key : List Value) → K key → All (λ (e : Entry). Q (holder_of e)) (entries_of m (held_after span (opening_of holders) items) key)
    of_key key is =
        All-filter_map (λ (stage : ℕ). (1 ≤ stage) × (stage ≤ (m - 1))) (λ (e : Entry). Q (holder_of e))
        (λ stage. option_map (λ c. ((key, stage), c)) (held_after span (opening_of holders) items key stage)) (of_stage key is) (stages_to (m - 1)) (numbers_in (m - 1))
