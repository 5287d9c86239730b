-- What the slot table keeps: chains that have room for all events of a sequence, and ascend.
use Rattle.std.specs.Prelude.{◌≡◌, ◌<◌, ◌+◌, ℕ, List, [], Option, None, map, length, slice_index_or, IfSome, vec_len, vec_capacity}
use Rattle.std.specs.Option.{option_map}
use Rattle.std.specs.declared.vec.Vec.{Vec}
use Rattle.std.specs.declared.alloc.Global.{Global}
use Rattle.eql_values.specs.declared.order.OrderKey.{OrderKey}
use Rattle.eql_values.specs.OrderKeys.{EventsAscend}
use Rattle.eql_auto.specs.declared.table.Pending.{Pending}

-- a sequence of the slot with this many slots before it, in a table of this many slots: it has an event for each stage up to its own, room for
-- an event of each stage, and its events ascend
pub record IsKept {T : Type 0} (count place : ℕ) (p : Pending T) : Type 0 where
  pub full : vec_len p.events ≡ place + 1
  pub room : count < vec_capacity p.events
  pub ascends : EventsAscend p.events.items

-- room for a further chain: it is empty, and has room for an event of each stage
pub record IsRoom (count : ℕ) (v : Vec OrderKey Global) : Type 0 where
  pub empty : v.items ≡ []
  pub none : vec_len v ≡ 0
  pub room : count < vec_capacity v

-- a machine with this many slots, this room for a further chain, if any, and room for this many tags: it has at most 256 stages, the room suits
-- them, and there is room for a tag of each slot and of a new sequence
pub record IsFit (count : ℕ) (spare : Option (Vec OrderKey Global)) (capacity : ℕ) : Type 0 where
  pub few : count < 256
  pub spare_room : IfSome spare (IsRoom count)
  pub room : count < capacity

module _ {T : Type 0} where
  -- a sequence as contracts see it: its events and its tag
  abbrev pub sequence_view : Pending T → List OrderKey × T
  sequence_view p = (p.events.items, p.tag)

  -- the sequences of the slots
  abbrev pub sequence_views : List (Option (Pending T)) → List (Option (List OrderKey × T))
  sequence_views slots = map (option_map sequence_view) slots

  -- each sequence is kept so
  abbrev pub AreKept : List (Option (Pending T)) → Type 0
  AreKept slots = (place : ℕ) → IfSome (slice_index_or slots place None) (IsKept (length slots) place)
