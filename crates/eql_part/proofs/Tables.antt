-- What the rooms of the keys are after a key was added or removed, or its machine written.
use Rattle.std.proofs.Common.{◌≡◌, ◌<◌, ℕ, ℤ, List, length, Option, Some, None, refl, sym, ◌∙◌, subst, arith}
use Rattle.std.specs.Prelude.{slice_get, slice_index_or, slice_set}
use Rattle.std.specs.BTreeMap.{get}
use Rattle.std.specs.Vec.{with_item}
use Rattle.std.proofs.lemmas.Option.{slice_get_read, slice_get_within}
use Rattle.eql_values.specs.declared.value.Value.{Value}
use Rattle.eql_values.specs.Orders.{key_cmp}
use Rattle.eql_auto.specs.Machine.{Machine}
use Rattle.eql_span_list.specs.declared.node.Ticket.{Ticket}
use Rattle.eql_part.specs.Indexed.{under_of}
use Rattle.eql_part.specs.declared.table.Room.{Room}
use Rattle.eql_part.specs.declared.table.KeyTable.{KeyTable}
use Rattle.eql_part.specs.KeyTables.{AreOf, IsEmptyAt, IsOf, KeepsOtherKeys, machine_of}
use Rattle.eql_part.specs.Rooms.{AddsEmpty, Changes, HasKeyNow, IsHoused, IsNamed, IsTable, IsUnnamed, entries_of, key_at, place_by, room_of_key}
use Rattle.eql_part.proofs.Emptied.{of_change}
use Rattle.eql_part.proofs.Housed.{room_there}
use Rattle.eql_part.proofs.Looked.{changed_others, changed_own, entries_sorted, machine_none, machine_there, room_of}
use Rattle.eql_part.proofs.Moved.{IsMoved, moved_in, moved_on, moved_out}

module _ {L : Type 0} (m : ℕ) (span : Option ℤ) where
  -- a table is one by its maps, too
  of_maps : (t u v : KeyTable L) (key : List Value) (place : Option ℕ) (machine : Option (Machine Ticket)) (h : IsTable m span t) → v.by_hash ≡ u.by_hash → v.others ≡ u.others
      → IsMoved m span (under_of t.by_hash) (get key_cmp t.others) t.rooms.items h.housed h.spare (under_of u.by_hash) (get key_cmp u.others) key place machine v.rooms.items
      → IsTable m span v × (room_of_key v key ≡ place) × Changes key machine (entries_of t) (entries_of v)
  of_maps t u v key place machine h hashes others moved =
      let housed = subst (λ b. IsHoused (under_of b) (get key_cmp v.others) v.rooms.items) (sym hashes)
      (subst (λ b. IsHoused (under_of u.by_hash) (get key_cmp b) v.rooms.items) (sym others) moved.housed) in
      let placed = (λ i. place_by (under_of (hashes i)) (get key_cmp (others i)) v.rooms.items key) ∙ moved.placed in
      (record { housed = housed; spare = moved.spare }, placed, moved.change)

  pub added : (t u v : KeyTable L) (key : List Value) (p : ℕ) → IsTable m span t → key_at t.rooms.items p ≡ None → room_of_key t key ≡ None → u.rooms ≡ t.rooms
      → IsNamed key p (under_of t.by_hash) (under_of u.by_hash) (get key_cmp t.others) (get key_cmp u.others) → v.by_hash ≡ u.by_hash → v.others ≡ u.others → HasKeyNow p (Some key) u.rooms.items v.rooms.items
      → IsTable m span v × (room_of_key v key ≡ Some p) × AddsEmpty m span key (entries_of t) (entries_of v)
  added t u v key p h spare absent same named hashes others has =
      let moved = moved_in m span (under_of t.by_hash) (get key_cmp t.others) t.rooms.items h.housed h.spare (under_of u.by_hash) (get key_cmp u.others) key p v.rooms.items named spare absent
      (subst (λ rooms. HasKeyNow p (Some key) rooms.items v.rooms.items) same has) in
      let all = of_maps t u v key (Some p) (Some moved.0) h hashes others moved.3 in
      (all.0, all.1, (moved.0, moved.1, moved.2, all.2))

  pub removed : (t u v : KeyTable L) (key : List Value) (p : ℕ) → IsTable m span t → AreOf m span (entries_of t) → IsEmptyAt (entries_of t) key → room_of_key t key ≡ Some p → u.rooms ≡ t.rooms
      → IsUnnamed key p (under_of t.by_hash) (under_of u.by_hash) (get key_cmp t.others) (get key_cmp u.others) → v.by_hash ≡ u.by_hash → v.others ≡ u.others → HasKeyNow p None u.rooms.items v.rooms.items
      → IsTable m span v × Changes key None (entries_of t) (entries_of v)
  removed t u v key p h of empty placed same unnamed hashes others has =
      let moved = moved_out m span (under_of t.by_hash) (get key_cmp t.others) t.rooms.items h.housed h.spare (under_of u.by_hash) (get key_cmp u.others) key p v.rooms.items unnamed placed
      (subst (λ rooms. HasKeyNow p None rooms.items v.rooms.items) same has) of empty in
      let all = of_maps t u v key None None h hashes others moved in
      (all.0, all.2)

  -- the room of a key
  pub room_at : (t : KeyTable L) (key : List Value) (p : ℕ) → IsTable m span t → room_of_key t key ≡ Some p → (room : Room L) × (slice_get t.rooms.items p ≡ Some room) × (room.key ≡ Some key)
  room_at t key p h placed = room_of t.rooms.items p key (room_there (under_of t.by_hash) (get key_cmp t.others) t.rooms.items h.housed key p placed)

  pub within : (t : KeyTable L) (key : List Value) (p : ℕ) → IsTable m span t → room_of_key t key ≡ Some p → p < length t.rooms.items
  within t key p h placed = let room = room_at t key p h placed in slice_get_within t.rooms.items p room.0 room.1

  pub found_at : (t : KeyTable L) (key : List Value) (p : ℕ) (room : Room L) → IsTable m span t → room_of_key t key ≡ Some p → slice_get t.rooms.items p ≡ Some room → machine_of (entries_of t) key ≡ Some room.machine
  found_at t key p room h placed at = machine_there (under_of t.by_hash) (get key_cmp t.others) t.rooms.items h.housed key p room placed at

  pub absent_at : (t : KeyTable L) (key : List Value) → IsTable m span t → room_of_key t key ≡ None → machine_of (entries_of t) key ≡ None
  absent_at t key h none = machine_none (under_of t.by_hash) (get key_cmp t.others) t.rooms.items h.housed key none

  pub rewritten : (t v : KeyTable L) (key : List Value) (p : ℕ) (room after : Room L) → IsTable m span t → room_of_key t key ≡ Some p → slice_get t.rooms.items p ≡ Some room → after.key ≡ room.key
      → v.by_hash ≡ t.by_hash → v.others ≡ t.others → v.rooms.items ≡ slice_set t.rooms.items p after
      → IsTable m span v × (room_of_key v key ≡ Some p) × Changes key (Some after.machine) (entries_of t) (entries_of v)
  rewritten t v key p room after h placed at same hashes others rooms =
      of_maps t t v key (Some p) (Some after.machine) h hashes others
      (subst
      (IsMoved m span (under_of t.by_hash) (get key_cmp t.others) t.rooms.items h.housed h.spare (under_of t.by_hash) (get key_cmp t.others) key (Some p) (Some after.machine))
      (sym rooms)
      (moved_on m span (under_of t.by_hash) (get key_cmp t.others) t.rooms.items h.housed h.spare key p room after placed at same))

  -- the rooms with this machine in place of that of a room
  abbrev pub with_machine : KeyTable L → ℕ → Room L → Machine Ticket → KeyTable L
  with_machine t p room w = record { by_hash = t.by_hash; others = t.others; rooms = with_item t.rooms p (record { key = room.key; machine = w }); leads = t.leads; free = t.free }

  -- what a written machine is to its key
  pub record IsWritten (t : KeyTable L) (key : List Value) (p : ℕ) (room : Room L) (w : Machine Ticket) : Type 0 where
    pub found : machine_of (entries_of t) key ≡ Some room.machine
    pub table : IsTable m span (with_machine t p room w)
    pub placed : room_of_key (with_machine t p room w) key ≡ Some p
    pub own : machine_of (entries_of (with_machine t p room w)) key ≡ Some w
    pub others : KeepsOtherKeys key (entries_of t) (entries_of (with_machine t p room w))
    pub change : Changes key (Some w) (entries_of t) (entries_of (with_machine t p room w))

  pub at_index : (t : KeyTable L) (key : List Value) (p : ℕ) (room : Room L) → IsTable m span t → room_of_key t key ≡ Some p → room ≡ slice_index_or t.rooms.items p room → slice_get t.rooms.items p ≡ Some room
  at_index t key p room h placed is = slice_get_read t.rooms.items (length t.rooms.items) p room refl (within t key p h placed) is

  pub written_at : (t : KeyTable L) (key : List Value) (p : ℕ) (room : Room L) (w : Machine Ticket) → IsTable m span t → room_of_key t key ≡ Some p → room ≡ slice_index_or t.rooms.items p room → IsWritten t key p room w
  written_at t key p room w h placed is =
      let at = at_index t key p room h placed is in
      let all = rewritten t (with_machine t p room w) key p room (record { key = room.key; machine = w }) h placed at refl refl refl refl in
      let new = entries_of (with_machine t p room w) in
      record {
        found = found_at t key p room h placed at;
        table = all.0;
        placed = all.1;
        own = changed_own key (Some w) (entries_of t) new all.2;
        others = changed_others key (Some w) (entries_of t) new all.2;
        change = all.2;
      }

  -- where a machine of these stages and this span is written, all are so still
  pub written_of : (t : KeyTable L) (key : List Value) (p : ℕ) (room : Room L) (w : Machine Ticket) → IsWritten t key p room w → AreOf m span (entries_of t) → IsOf m span w → AreOf m span (entries_of (with_machine t p room w))
  written_of t key p room w written of now =
      of_change m span key (Some w) (entries_of t) (entries_of (with_machine t p room w)) of now (entries_sorted (with_machine t p room w).rooms.items) written.change

  -- the machine in the room that was looked up
  pub found_by : (t : KeyTable L) (key : List Value) (p : ℕ) (room : Room L) → IsTable m span t → room_of_key t key ≡ Some p → room ≡ slice_index_or t.rooms.items p room → machine_of (entries_of t) key ≡ Some room.machine
  found_by t key p room h placed is = found_at t key p room h placed (at_index t key p room h placed is)

  -- where a place is within the vector's length
  pub within_len : (t : KeyTable L) (key : List Value) (p : ℕ) → IsTable m span t → room_of_key t key ≡ Some p → p < t.rooms.len
  within_len t key p h placed = let ok = t.rooms.ok.0 in let lt = within t key p h placed in omega (arith, ok, lt)
