-- Lists that ascend from each element to the next, and the keys by which lists of this project ascend.
use Rattle.std.specs.Prelude.{◌≡◌, ℕ, Bool, true, ◌&&◌, List, [], ◌∷◌, map}
use Rattle.std.specs.Ordering.{is_lt}
use Rattle.std.specs.FinMap.Entries.{is_sorted}
use Rattle.std.specs.declared.cmp.Ordering.{Ordering}
use Rattle.eql_values.specs.declared.order.OrderKey.{OrderKey}
use Rattle.eql_values.specs.declared.value.Value.{Value}
use Rattle.eql_values.specs.declared.item.Route.{Route}
use Rattle.eql_values.specs.declared.item.Item.{Item}
use Rattle.eql_values.specs.declared.found.Holder.{Holder}
use Rattle.eql_values.specs.declared.found.Numbered.{Numbered}
use Rattle.eql_values.specs.Matching.{Slot}

module _ {K X : Type 0} (R : K → K → Ordering) where
  -- the first of these comes after the key, where there is one
  abbrev pub begins_above : K → List (K × X) → Bool
  begins_above k [] = true
  begins_above k (e ∷ es) = is_lt (R k e.0)

  -- each comes after the one before it
  abbrev pub ascends_next : List (K × X) → Bool
  ascends_next [] = true
  ascends_next (e ∷ es) = begins_above e.0 es && ascends_next es

  -- what ascends from each to the next is sorted, and what is sorted so ascends
  abbrev pub NextTells : List (K × X) → Type 0
  NextTells es = ascends_next es ≡ is_sorted R es

-- routes with their keys
abbrev pub by_key : List Route → List (List Value × Route)
by_key = map (λ (r : Route). (r.key, r))

-- events with their places in the order
abbrev pub by_order : List Item → List (OrderKey × Item)
by_order = map (λ (item : Item). (item.order, item))

-- the events of a chain, each with itself
abbrev pub by_itself : List OrderKey → List (OrderKey × OrderKey)
by_itself = map (λ (event : OrderKey). (event, event))

-- pending sequences with their keys and stages
abbrev pub by_slot : List Holder → List (Slot × Holder)
by_slot = map (λ (h : Holder). ((h.key, h.stage), h))

-- matches with their numbers
abbrev pub by_number : List Numbered → List (ℕ × Numbered)
by_number = map (λ (found : Numbered). (found.number, found))
