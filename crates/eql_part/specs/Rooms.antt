-- The rooms of machines, and how the room of a key is found.
use Rattle.std.specs.Prelude.{◌≡◌, ◌⊎◌, ℕ, ℤ, Bool, false, cond, List, [], Option, None, Some, All, IfNone, filter_map, length, map, slice_get, slice_set}
use Rattle.std.specs.Borrow.{Bor}
use Rattle.std.specs.Option.{option_map}
use Rattle.std.specs.Ordering.{is_lt}
use Rattle.std.specs.List.{AllAdjacentBelow}
use Rattle.std.specs.List.Sorted.{IsPermutation}
use Rattle.std.specs.BTreeMap.{get, is_at}
use Rattle.eql_values.specs.declared.value.Value.{Value}
use Rattle.eql_values.specs.Ordered.{in_order}
use Rattle.eql_values.specs.Orders.{key_cmp, key_eq}
use Rattle.eql_auto.specs.Machine.{Machine, tags_of}
use Rattle.eql_span_list.specs.declared.node.Ticket.{Ticket}
use Rattle.eql_part.specs.Indexed.{under_of}
use Rattle.eql_part.specs.declared.table.Room.{Room}
use Rattle.eql_part.specs.declared.table.KeyTable.{KeyTable}
use Rattle.eql_part.specs.Hashes.{key_hash}
use Rattle.eql_part.specs.KeyTables.{IsOf, machine_of}

-- a key with its machine, of which both are lent behind a number
abbrev pub lent_entry : ℕ × Bor (List Value) × Bor (Machine Ticket) → List Value × Machine Ticket
lent_entry e = (e.1.now, e.2.now)

abbrev pub Lent : Type 0
Lent = ℕ × Bor (List Value) × Bor (Machine Ticket)

-- no key comes before the one in front of it
abbrev pub NoneIsBefore : Lent → Lent → Type 0
NoneIsBefore x y = is_lt (key_cmp (lent_entry y).0 (lent_entry x).0) ≡ false

abbrev pub AreInKeyOrder : List Lent → Type 0
AreInKeyOrder rows = AllAdjacentBelow NoneIsBefore rows (length rows)

-- the rows are these entries once they are put in the order of keys
abbrev pub AreUnsorted : List (List Value × Machine Ticket) → List Lent → Type 0
AreUnsorted entries rows = (sorted : List Lent) → IsPermutation rows sorted → AreInKeyOrder sorted → map lent_entry sorted ≡ entries

-- whether that is this key
abbrev pub is_key : Option (List Value) → List Value → Bool
is_key None key = false
is_key (Some own) key = key_eq own key

-- the new machines are the old ones, but for that of the key
abbrev pub Changes : List Value → Option (Machine Ticket) → List (List Value × Machine Ticket) → List (List Value × Machine Ticket) → Type 0
Changes key machine old new = (q : List Value) → machine_of new q ≡ cond (is_at (key_cmp key) q) machine (machine_of old q)

-- a machine without sequences is new
abbrev pub AddsEmpty : ℕ → Option ℤ → List Value → List (List Value × Machine Ticket) → List (List Value × Machine Ticket) → Type 0
AddsEmpty m span key old new = (machine : Machine Ticket) × IsOf m span machine × (tags_of machine.slots ≡ []) × Changes key (Some machine) old new

-- a key without a room gets this place, under its hash where nothing stood there, and else under itself
pub record IsNamed (key : List Value) (place : ℕ) (under now_under : ℕ → Option ℕ) (other now_other : List Value → Option ℕ) : Type 0 where
  pub hashes : (h : ℕ) → (now_under h ≡ under h) ⊎ ((under h ≡ None) × (now_under h ≡ Some place))
  pub keys : (q : List Value) → key_eq key q ≡ false → now_other q ≡ other q
  pub own : (now_other key ≡ other key) ⊎ (now_other key ≡ Some place)
  pub there : (now_under (key_hash key) ≡ Some place) ⊎ (now_other key ≡ Some place)

-- a key loses its place
pub record IsUnnamed (key : List Value) (place : ℕ) (under now_under : ℕ → Option ℕ) (other now_other : List Value → Option ℕ) : Type 0 where
  pub hashes : (h : ℕ) → (now_under h ≡ under h) ⊎ ((under h ≡ Some place) × (now_under h ≡ None))
  pub keys : (q : List Value) → key_eq key q ≡ false → now_other q ≡ other q
  pub own : now_other key ≡ None

module _ {L : Type 0} where
  -- the key of the room, where there is a room and it has a key
  abbrev pub key_in : Option (Room L) → Option (List Value)
  key_in None = None
  key_in (Some room) = room.key

  -- the key of the room at a place
  abbrev pub key_at : List (Room L) → ℕ → Option (List Value)
  key_at rooms place = key_in (slice_get rooms place)

  -- whether the room at a place, where there is one, has the key
  abbrev pub is_there : List (Room L) → Option ℕ → List Value → Bool
  is_there rooms None key = false
  is_there rooms (Some place) key = is_key (key_at rooms place) key

  -- the place of a key: the one under its hash, where that room has the key, and else the one under the key itself
  abbrev pub place_by : (under : ℕ → Option ℕ) (other : List Value → Option ℕ) → List (Room L) → List Value → Option ℕ
  place_by under other rooms key = cond (is_there rooms (under (key_hash key)) key) (under (key_hash key)) (other key)

  abbrev pub room_of_key : KeyTable L → List Value → Option ℕ
  room_of_key t = place_by (under_of t.by_hash) (get key_cmp t.others) t.rooms.items

  -- a room's key with its machine
  abbrev pub row_of : Room L → Option (List Value × Machine Ticket)
  row_of room = option_map (λ (key : List Value). (key, room.machine)) room.key

  -- the keys with their machines, in the order of the rooms
  abbrev pub rows_of : List (Room L) → List (List Value × Machine Ticket)
  rows_of rooms = filter_map row_of rooms

  -- the keys with their machines, in the order of keys
  abbrev pub entries_in : List (Room L) → List (List Value × Machine Ticket)
  entries_in rooms = in_order key_cmp (rows_of rooms)

  abbrev pub entries_of : KeyTable L → List (List Value × Machine Ticket)
  entries_of t = entries_in t.rooms.items

  -- the room at a place has this key now, and its machine is as it was, and so are the other rooms
  abbrev pub HasKeyNow : ℕ → Option (List Value) → List (Room L) → List (Room L) → Type 0
  HasKeyNow place key old new = (room : Room L) × (slice_get old place ≡ Some room) × (new ≡ slice_set old place (record room { key = key }))

  -- a room without a key has a machine of these stages and this span with no sequence
  abbrev pub IsSpare : ℕ → Option ℤ → Room L → Type 0
  IsSpare m span room = IfNone room.key (IsOf m span room.machine × (tags_of room.machine.slots ≡ []))

  -- a key's place is that of its room, and there is no other with the key
  pub record IsHoused (under : ℕ → Option ℕ) (other : List Value → Option ℕ) (rooms : List (Room L)) : Type 0 where
    pub other_is : (key : List Value) (place : ℕ) → other key ≡ Some place → key_at rooms place ≡ Some key
    pub found : (place : ℕ) (key : List Value) → key_at rooms place ≡ Some key → place_by under other rooms key ≡ Some place

  -- each key has its room, and rooms without a key are fit to be used again
  pub record IsTable (m : ℕ) (span : Option ℤ) (t : KeyTable L) : Type 0 where
    pub housed : IsHoused (under_of t.by_hash) (get key_cmp t.others) t.rooms.items
    pub spare : All (IsSpare m span) t.rooms.items
