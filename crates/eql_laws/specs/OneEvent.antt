-- Laws of pending sequences as a list: what a look-up finds after items, and what one item does.
use Rattle.std.specs.Prelude.{◌≡◌, ◌<◌, ℕ, suc, ℤ, List, [], ◌∷◌, Option, Some, None, All, find}
use Rattle.std.specs.List.{filter_map}
use Rattle.std.specs.Option.{option_map}
use Rattle.eql_values.specs.declared.order.OrderKey.{OrderKey}
use Rattle.eql_values.specs.declared.value.Value.{Value}
use Rattle.eql_values.specs.declared.item.Route.{Route}
use Rattle.eql_values.specs.declared.item.Item.{Item}
use Rattle.eql_values.specs.declared.found.Match.{Match}
use Rattle.eql_values.specs.declared.found.Holder.{Holder}
use Rattle.eql_values.specs.Orders.{key_eq}
use Rattle.eql_values.specs.Matching.{key_event_by, opening_of, held_after, matches, after}
use Rattle.eql_laws.specs.Alive.{HoldersAreInOrder}
use Rattle.eql_laws.specs.Shapes.{HasStageBefore}
use Rattle.eql_laws.specs.Slots.{Slots, chain_coming, slots_after}

-- at a stage from 1 to the one before the last, a look-up in what is pending after items finds what the look-back gives
abbrev pub AfterLooksUp : Type 0
AfterLooksUp = (m : ℕ) (span : Option ℤ) (holders : List Holder) (items : List Item) (key : List Value) (k : ℕ) → suc k < m
    → opening_of (after m span holders items) key (suc k) ≡ held_after span (opening_of holders) items key (suc k)

-- and at every other stage nothing
abbrev pub AfterHasNoOther : Type 0
AfterHasNoOther = (m : ℕ) (span : Option ℤ) (holders : List Holder) (items : List Item) (key : List Value)
    → (opening_of (after m span holders items) key 0 ≡ None)
    × ((k : ℕ) → m < suc k → opening_of (after m span holders items) key k ≡ None)

-- lists of pending sequences in order with the same look-ups are one and the same
abbrev pub HoldersAreSame : Type 0
HoldersAreSame = (a b : List Holder) → HoldersAreInOrder a → HoldersAreInOrder b
    → ((key : List Value) (stage : ℕ) → opening_of a key stage ≡ opening_of b key stage) → a ≡ b

-- what an item does to the slots of a key, by the route that it has of the key, if any
abbrev pub slots_after_event : Option ℤ → OrderKey → Option Route → Slots → Slots
slots_after_event span order None slots = slots
slots_after_event span order (Some route) slots = slots_after span slots (key_event_by order route)

-- after one item the slots of each key are those before it, moved where the item has a route of the key
abbrev pub OneItemMovesSlots : Type 0
OneItemMovesSlots = (m : ℕ) (span : Option ℤ) (holders : List Holder) (item : Item) (key : List Value) (k : ℕ) → suc k < m
    → opening_of (after m span holders (item ∷ [])) key (suc k)
    ≡ slots_after_event span item.order (find (λ (route : Route). key_eq key route.key) item.routes) (opening_of holders key) (suc k)

-- the match that comes to the last stage of a key by a route, where one comes
abbrev pub match_at : ℕ → Option ℤ → List Holder → OrderKey → Route → Option Match
match_at m span holders order route =
    option_map (λ c. record { key = route.key; chain = c }) (chain_coming span (opening_of holders route.key) (key_event_by order route) m)

-- the matches by one item are what comes to the last stage of each key that it has a route of
abbrev pub OneItemMatches : Type 0
OneItemMatches = (m : ℕ) (span : Option ℤ) (holders : List Holder) (item : Item)
    → matches m span holders (item ∷ []) ≡ filter_map (match_at m span holders item.order) item.routes

-- after no item what is pending is what was
abbrev pub AfterNoneIsSame : Type 0
AfterNoneIsSame = (m : ℕ) (span : Option ℤ) (holders : List Holder) → HoldersAreInOrder holders → All (HasStageBefore m) holders → after m span holders [] ≡ holders
