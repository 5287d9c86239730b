-- What the calls on the slot table do to its slots.
use Rattle.std.specs.Prelude.{ℕ, zero, suc, ℤ, List, [], ◌∷◌, Option, Some, None, if◌then◌else◌, slice_set}
use Rattle.std.specs.Option.{option_map}
use Rattle.eql_values.specs.declared.order.OrderKey.{OrderKey}
use Rattle.eql_values.specs.declared.item.Mask.{Mask}
use Rattle.eql_values.specs.Masks.{has_after}
use Rattle.eql_values.specs.Ordered.{found_or}
use Rattle.eql_auto.specs.declared.table.Which.{Which}
use Rattle.eql_auto.specs.declared.table.Which.TheVariants as which
use Rattle.eql_auto.specs.Machine.{Sequence, slot_at, went_on, alive_in}

module _ {T : Type 0} where
  -- the chain of a sequence, where there is one
  abbrev pub chain_in : Option (Sequence T) → Option (List OrderKey)
  chain_in slot = option_map (λ s. s.0) slot

  -- what an emptying leaves of a slot: nothing, or what isn't stale
  abbrev pub emptied_slot : Which → Option (Sequence T) → Option (Sequence T)
  emptied_slot which.All slot = None
  emptied_slot (which.Stale span reach) slot = alive_in (Some span) reach slot

  -- what comes to a stage as an event moves sequences on: the sequence of the stage before, moved on, where the mask has the stage
  abbrev pub coming_to : Option ℤ → OrderKey → Mask → List (Option (Sequence T)) → ℕ → Option (Sequence T)
  coming_to span event mask slots zero = None
  coming_to span event mask slots (suc k) = if has_after k mask then went_on span event (slot_at slots k) else None

  -- the slot of a stage then: what came; else what was there, unless it was moved on
  abbrev pub moved_to : Option ℤ → OrderKey → Mask → List (Option (Sequence T)) → ℕ → Option (Sequence T)
  moved_to span event mask slots k = found_or (coming_to span event mask slots k) (if has_after k mask then None else slot_at slots k)

  -- the slots with a new sequence of one event in the first, where there is a tag for it
  abbrev pub with_new_sequence : OrderKey → Option T → List (Option (Sequence T)) → List (Option (Sequence T))
  with_new_sequence event None slots = slots
  with_new_sequence event (Some tag) slots = slice_set slots 0 (Some (event ∷ [], tag))
