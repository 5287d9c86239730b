-- Held events: a run of those that came in order, and the others.
use Rattle.std.specs.Prelude.{◌≡◌, ◌<◌, ℕ, Bool, true, false, List, [], ◌∷◌, ◌++◌, map, All, IsTrue}
use Rattle.std.specs.Map.{keys_of}
use Rattle.std.specs.FinMap.Entries.{is_sorted}
use Rattle.std.specs.Ordering.{is_lt}
use Rattle.std.specs.declared.cmp.Ordering.TheVariants.{Equal}
use Rattle.eql_values.specs.declared.order.OrderKey.{OrderKey}
use Rattle.eql_values.specs.declared.item.Route.{Route}
use Rattle.eql_values.specs.declared.item.Item.{Item}
use Rattle.eql_values.specs.Accepted.{sorted_items}
use Rattle.eql_values.specs.OrderKeys.{order_cmp}

-- a store of items by their places
abbrev pub Entries : Type 0
Entries = List (OrderKey × List Route)

-- its items
abbrev pub items_in : Entries → List Item
items_in entries = map (λ (e : OrderKey × List Route). record { order = e.0; routes = e.1 }) entries

-- an item by its place
abbrev pub pair : Item → OrderKey × List Route
pair item = (item.order, item.routes)

-- the lines of its items are below this
abbrev pub LinesAreBelow : ℕ → Entries → Type 0
LinesAreBelow n entries = All (λ (k : OrderKey). k.line < n) (keys_of entries)

-- the events of a run and the others, in order
abbrev pub held_in : List Item → Entries → List Item
held_in run others = sorted_items (run ++ items_in others)

-- no event of the run stands at the place of another
abbrev pub AreApart : List Item → Entries → Type 0
AreApart run others = All (λ (item : Item). All (λ (key : OrderKey). order_cmp item.order key ≡ Equal → ⊥) (keys_of others)) run

-- the run ascends, the others stand in order, and no two are at one place
pub record IsHeld (run : List Item) (others : Entries) : Type 0 where
  pub run_order : IsTrue (is_sorted order_cmp (map pair run))
  pub others_order : IsTrue (is_sorted order_cmp others)
  pub apart : AreApart run others

-- the first event of all is that of the run
abbrev pub is_run_first : List Item → Entries → Bool
is_run_first [] others = false
is_run_first (item ∷ run) [] = true
is_run_first (item ∷ run) (e ∷ others) = is_lt (order_cmp item.order e.0)
