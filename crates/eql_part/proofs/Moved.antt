-- What the machines of the keys are after a room got a key, lost it, or has another machine.
use Rattle.std.proofs.Common.{◌≡◌, ℕ, ℤ, List, [], Option, Some, None, sym, ap, ◌∙◌, subst}
use Rattle.std.specs.Prelude.{All, IfNone, slice_get, slice_set}
use Rattle.std.proofs.lemmas.Option.{get_or_from_slice_get, slice_get_within}
use Rattle.std.proofs.lemmas.List.Elements.{All-set}
use Rattle.eql_values.specs.declared.value.Value.{Value}
use Rattle.eql_values.specs.Orders.{key_eq}
use Rattle.eql_laws.proofs.Elements.{some_is}
use Rattle.eql_auto.specs.Machine.{Machine, tags_of}
use Rattle.eql_span_list.specs.declared.node.Ticket.{Ticket}
use Rattle.eql_part.specs.declared.table.Room.{Room}
use Rattle.eql_part.specs.KeyTables.{AreOf, IsEmptyAt, IsOf, machine_of}
use Rattle.eql_part.specs.Rooms.{Changes, HasKeyNow, IsHoused, IsNamed, IsSpare, IsUnnamed, entries_in, key_at, key_in, place_by}
use Rattle.eql_part.proofs.Busy.{own_key}
use Rattle.eql_part.proofs.Housed.{get_apart, get_here, housed_alike, in_housed, in_others, in_own, out_housed, out_others, out_own, place_alike, room_there, write_alike}
use Rattle.eql_part.proofs.Looked.{changes, machine_none, machine_stays, machine_there}
use Rattle.eql_part.proofs.Turned.{found_of}

-- what holds of all holds at a place
all_at : {A : Type 0} (P : A → Type 0) (xs : List A) (p : ℕ) (x : A) → All P xs → slice_get xs p ≡ Some x → P x
all_at P xs p x all at = subst P (get_or_from_slice_get xs p x x at) (all p x (slice_get_within xs p x at))

module _ {L : Type 0} (m : ℕ) (span : Option ℤ) (under : ℕ → Option ℕ) (other : List Value → Option ℕ) (rooms : List (Room L)) (h : IsHoused under other rooms) (spares : All (IsSpare m span) rooms) where
  -- what a key's room that changes is then
  pub record IsMoved (now_under : ℕ → Option ℕ) (now_other : List Value → Option ℕ) (key : List Value) (place : Option ℕ) (machine : Option (Machine Ticket)) (now : List (Room L)) : Type 0 where
    pub housed : IsHoused now_under now_other now
    pub spare : All (IsSpare m span) now
    pub placed : place_by now_under now_other now key ≡ place
    pub change : Changes key machine (entries_in rooms) (entries_in now)

  spare_in : (p : ℕ) (room : Room L) → slice_get rooms p ≡ Some room → key_at rooms p ≡ None → IsOf m span room.machine × (tags_of room.machine.slots ≡ [])
  spare_in p room at none =
      subst (λ (o : Option (List Value)). IfNone o (IsOf m span room.machine × (tags_of room.machine.slots ≡ []))) (sym (ap key_in at) ∙ none) (all_at (IsSpare m span) rooms p room spares at)

  module _ (now_under : ℕ → Option ℕ) (now_other : List Value → Option ℕ) (key : List Value) (p : ℕ) (room : Room L) (at : slice_get rooms p ≡ Some room) where
    moved_in_set : IsNamed key p under now_under other now_other → key_at rooms p ≡ None → place_by under other rooms key ≡ None
        → IsMoved now_under now_other key (Some p) (Some room.machine) (slice_set rooms p (record room { key = Some key }))
    moved_in_set named spare absent =
        let after : Room L = record room { key = Some key } in
        let now = slice_set rooms p after in
        let housed = in_housed under other rooms h key p room at now_under now_other named spare absent in
        let own = in_own under other rooms h key p room at now_under now_other named spare absent in
        record {
          housed = housed;
          spare = All-set (IsSpare m span) rooms p after tt spares;
          placed = own;
          change = changes key (Some room.machine) (entries_in rooms) (entries_in now)
              (machine_there now_under now_other now housed key p after own (get_here rooms p after room at))
              (λ q ne. machine_stays under other rooms h now_under now_other now housed q
              (in_others under other rooms h key p room at now_under now_other named spare absent q ne)
              (λ r is. get_apart rooms p r after (λ same. let wrong = sym spare ∙ ap (key_at rooms) (sym same) ∙ is in cc)));
        }

    moved_out_set : IsUnnamed key p under now_under other now_other → place_by under other rooms key ≡ Some p → IsOf m span room.machine → tags_of room.machine.slots ≡ []
        → IsMoved now_under now_other key None None (slice_set rooms p (record room { key = None }))
    moved_out_set unnamed placed of empty =
        let after : Room L = record room { key = None } in
        let now = slice_set rooms p after in
        let housed = out_housed under other rooms h key p room at now_under now_other unnamed placed in
        let own = out_own under other rooms h key p room at now_under now_other unnamed placed in
        let has = room_there under other rooms h key p placed in
        record {
          housed = housed;
          spare = All-set (IsSpare m span) rooms p after (of, empty) spares;
          placed = own;
          change = changes key None (entries_in rooms) (entries_in now)
              (machine_none now_under now_other now housed key own)
              (λ q ne. machine_stays under other rooms h now_under now_other now housed q
              (out_others under other rooms h key p room at now_under now_other unnamed placed q ne)
              (λ r is. get_apart rooms p r after
              (λ same.
              let one : Some key ≡ Some q = sym has ∙ ap (key_at rooms) (sym same) ∙ is in
              let two : key ≡ q = cc in
              let wrong = sym (own_key key) ∙ ap (key_eq key) two ∙ ne in
              cc)));
        }

  -- a key without a place has the room at p now
  pub moved_in : (now_under : ℕ → Option ℕ) (now_other : List Value → Option ℕ) (key : List Value) (p : ℕ) (now : List (Room L))
      → IsNamed key p under now_under other now_other → key_at rooms p ≡ None → place_by under other rooms key ≡ None → HasKeyNow p (Some key) rooms now
      → (machine : Machine Ticket) × IsOf m span machine × (tags_of machine.slots ≡ []) × IsMoved now_under now_other key (Some p) (Some machine) now
  moved_in now_under now_other key p now named spare absent has =
      let fit = spare_in p has.0 has.1 spare in (
        has.0.machine,
        fit.0,
        fit.1,
        subst (IsMoved now_under now_other key (Some p) (Some has.0.machine)) (sym has.2) (moved_in_set now_under now_other key p has.0 has.1 named spare absent),
      )

  -- a key has the room at p no more
  pub moved_out : (now_under : ℕ → Option ℕ) (now_other : List Value → Option ℕ) (key : List Value) (p : ℕ) (now : List (Room L))
      → IsUnnamed key p under now_under other now_other → place_by under other rooms key ≡ Some p → HasKeyNow p None rooms now → AreOf m span (entries_in rooms) → IsEmptyAt (entries_in rooms) key
      → IsMoved now_under now_other key None None now
  moved_out now_under now_other key p now unnamed placed has of empty =
      let machine = has.0.machine in
      let found = machine_there under other rooms h key p has.0 placed has.1 in
      subst (IsMoved now_under now_other key None None) (sym has.2)
      (moved_out_set now_under now_other key p has.0 has.1 unnamed placed (found_of m span (entries_in rooms) key machine of found)
      (some_is (λ (x : Machine Ticket). tags_of x.slots ≡ []) (machine_of (entries_in rooms) key) machine found empty))

  -- a key's room has another machine now
  pub moved_on : (key : List Value) (p : ℕ) (room after : Room L) → place_by under other rooms key ≡ Some p → slice_get rooms p ≡ Some room → after.key ≡ room.key
      → IsMoved under other key (Some p) (Some after.machine) (slice_set rooms p after)
  moved_on key p room after placed at same =
      let now = slice_set rooms p after in
      let alike = write_alike rooms p room after at same in
      let housed = housed_alike under other rooms now alike h in
      let own = place_alike under other rooms now alike key ∙ placed in
      let has = room_there under other rooms h key p placed in
      let keyed : after.key ≡ Some key = same ∙ sym (ap key_in at) ∙ has in
      record {
        housed = housed;
        spare = All-set (IsSpare m span) rooms p after (subst (λ (o : Option (List Value)). IfNone o (IsOf m span after.machine × (tags_of after.machine.slots ≡ []))) (sym keyed) tt) spares;
        placed = own;
        change = changes key (Some after.machine) (entries_in rooms) (entries_in now)
            (machine_there under other now housed key p after own (get_here rooms p after room at))
            (λ q ne. machine_stays under other rooms h under other now housed q (place_alike under other rooms now alike q)
            (λ r is. get_apart rooms p r after
            (λ e.
            let one : Some key ≡ Some q = sym has ∙ ap (key_at rooms) (sym e) ∙ is in
            let two : key ≡ q = cc in
            let wrong = sym (own_key key) ∙ ap (key_eq key) two ∙ ne in
            cc)));
      }
