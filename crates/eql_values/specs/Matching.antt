-- What a list of items gives: its matches, and the pending sequences after it. A span is in nanoseconds.
use Rattle.std.specs.Prelude.{ℕ, zero, suc, ◌-◌, ℤ, List, [], ◌∷◌, ◌++◌, map, find, Option}
use Rattle.std.specs.List.{filter_map, flat_map}
use Rattle.std.specs.Option.{option_map}
use Rattle.std.specs.Ordering.{on, then_cmp, nat_cmp}
use Rattle.std.specs.FinMap.Entries.{find as find_entry}
use Rattle.std.specs.declared.cmp.Ordering.{Ordering}
use Rattle.eql_values.specs.declared.order.OrderKey.{OrderKey}
use Rattle.eql_values.specs.declared.value.Value.{Value}
use Rattle.eql_values.specs.declared.item.Route.{Route}
use Rattle.eql_values.specs.declared.item.Item.{Item}
use Rattle.eql_values.specs.declared.found.Match.{Match}
use Rattle.eql_values.specs.declared.found.Holder.{Holder}
use Rattle.eql_values.specs.Orders.{key_cmp, key_eq}
use Rattle.eql_values.specs.declared.item.KeyEvent.{KeyEvent}
use Rattle.eql_values.specs.Chains.{chain, holder}
use Rattle.eql_values.specs.Ordered.{in_order}

-- what an item says by one of its routes
abbrev pub key_event_by : OrderKey → Route → KeyEvent
key_event_by order route = record { order = order; mask = route.mask; until = route.until }

-- the items that have a route of the key, and what they say by it
abbrev pub key_events_of : List Value → List Item → List KeyEvent
key_events_of key items = filter_map (λ (item : Item). option_map (key_event_by item.order) (find (λ (route : Route). key_eq key route.key) item.routes)) items

-- the items put before a past, the latest first
abbrev pub onto : List Item → List Item → List Item
onto [] past = past
onto (item ∷ items) past = onto items (item ∷ past)

-- a key and a stage
abbrev pub Slot : Type 0
Slot = List Value × ℕ

-- by key, then by stage
abbrev pub slot_cmp : Slot → Slot → Ordering
slot_cmp = then_cmp (on (λ s. s.0) key_cmp) (on (λ s. s.1) nat_cmp)

-- the opening chains of each key, by stage
abbrev pub Openings : Type 0
Openings = List Value → ℕ → Option (List OrderKey)

-- the chain that a list of holders has of a key and a stage
abbrev pub opening_of : List Holder → Openings
opening_of holders key stage =
    find_entry slot_cmp (key, stage) (map (λ (h : Holder). ((h.key, h.stage), h.chain)) holders)

-- the numbers from 1 to n
abbrev pub stages_to : ℕ → List ℕ
stages_to zero = []
stages_to (suc n) = stages_to n ++ suc n ∷ []

-- the keys that a holder or an item has
abbrev pub keys_in : List Holder → List Item → List (List Value)
keys_in holders items =
    map (λ (h : Holder). h.key) holders ++ flat_map (λ (item : Item). map (λ (r : Route). r.key) item.routes) items

-- the pending sequence of a key and a stage after the items
abbrev pub held_after : Option ℤ → Openings → List Item → Openings
held_after span openings items key stage = holder span (openings key) stage (key_events_of key (onto items []))

-- what there is of a key, by stage
abbrev pub entries_of : ℕ → Openings → List Value → List (Slot × List OrderKey)
entries_of m slots key = filter_map (λ (stage : ℕ). option_map (λ c. ((key, stage), c)) (slots key stage)) (stages_to (m - 1))

-- the pending sequences of all keys after the items, by key and stage
abbrev pub after : ℕ → Option ℤ → List Holder → List Item → List Holder
after m span holders items =
    map (λ (e : Slot × List OrderKey). record { key = e.0.0; stage = e.0.1; chain = e.1 })
    (in_order slot_cmp (flat_map (entries_of m (held_after span (opening_of holders) items)) (keys_in holders items)))

module _ (m : ℕ) (span : Option ℤ) where
  -- the match of an item's route, where the chain of the last stage is there
  abbrev pub match_by : Openings → List Item → OrderKey → Route → Option Match
  match_by openings past order route =
      option_map (λ c. record { key = route.key; chain = c })
      (chain span (openings route.key) m (key_event_by order route ∷ key_events_of route.key past))

  -- the matches that end with each of the items, in order, and for one item by key
  abbrev pub matches_after : Openings → List Item → List Item → List Match
  matches_after openings past [] = []
  matches_after openings past (item ∷ items) =
      filter_map (match_by openings past item.order) item.routes ++ matches_after openings (item ∷ past) items

  -- the matches by these items, with these holders before them
  abbrev pub matches : List Holder → List Item → List Match
  matches holders items = matches_after (opening_of holders) [] items
