-- The lists of the parts' events, while the events of a round come to them.
use Rattle.std.specs.Prelude.{◌≡◌, ◌≢◌, ◌<◌, ◌++◌, ◌∷◌, [], ℕ, List, Option, None, Some, length, slice_get}
use Rattle.std.specs.declared.alloc.Global.{Global}
use Rattle.std.specs.declared.vec.Vec.{Vec}
use Rattle.eql_values.specs.declared.item.Item.{Item}
use Rattle.eql_values.specs.Routing.{routed_items}
use Rattle.eql_parts.specs.Spreading.{part_number}

-- the events of a list
abbrev pub events_of : Vec Item Global → List Item
events_of list = list.items

-- the events of the list in a place, and none past the end
abbrev pub events_if : Option (Vec Item Global) → List Item
events_if None = []
events_if (Some list) = events_of list

abbrev pub events_at : List (Vec Item Global) → ℕ → List Item
events_at lists p = events_if (slice_get lists p)

-- the list in one place grew by these events at its end, and the others stayed
pub record Grows (place : ℕ) (events : List Item) (old new : List (Vec Item Global)) : Type 0 where
  pub here : events_at new place ≡ events_at old place ++ events
  pub others : (p : ℕ) → p ≢ place → events_at new p ≡ events_at old p
  pub count : length new ≡ length old

-- an event came: the list of each part grew by the event with the part's routes alone, where it has some
pub record Comes (item : Item) (old new : List (Vec Item Global)) : Type 0 where
  pub each : (p : ℕ) → p < 16 → events_at new p ≡ events_at old p ++ routed_items part_number p (item ∷ [])
  pub count : length new ≡ length old

-- there are sixteen lists, each with the events of its part
pub record AreSpread (items : List Item) (lists : List (Vec Item Global)) : Type 0 where
  pub each : (p : ℕ) → p < 16 → events_at lists p ≡ routed_items part_number p items
  pub count : length lists ≡ 16
