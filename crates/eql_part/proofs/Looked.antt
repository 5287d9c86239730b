-- What a look-up in the machines by their keys finds, by the key's place.
use Rattle.std.proofs.Common.{◌≡◌, ◌+◌, ℕ, zero, suc, Bool, true, false, cond, List, [], ◌∷◌, ◌++◌, length, Option, Some, None, refl, sym, ap, ◌∙◌, subst, arith, T}
use Rattle.std.specs.Prelude.{All, IfSome, IsSome, if◌then◌else◌, is_some, slice_get, take}
use Rattle.std.specs.BTreeMap.{is_at}
use Rattle.std.specs.Cmp.{eq_by_cmp_equiv}
use Rattle.std.specs.FinMap.Entries.{below_all, find, is_sorted, put, by_order, same_entries}
use Rattle.std.specs.List.{AllByRecursion, cons_option}
use Rattle.std.specs.List.Sorted.{IsStrictlySortedBy}
use Rattle.std.specs.Map.{keys_of, lookup, set_value, values_of}
use Rattle.std.specs.Option.{option_map}
use Rattle.std.specs.Ordering.{is_eq, is_lt}
use Rattle.std.specs.declared.cmp.Ordering.{Ordering}
use Rattle.std.specs.declared.cmp.Ordering.TheVariants.{Less, Equal, Greater}
use Rattle.std.proofs.lemmas.List.{length-append}
use Rattle.std.proofs.lemmas.List.Elements.{All-cons, All-nil, filter_map-append}
use Rattle.std.proofs.lemmas.Map.{keys-set_value, lookup-set_value}
use Rattle.std.proofs.lemmas.Map.Keys.{sorted_head, sorted_tail}
use Rattle.eql_values.specs.declared.value.Value.{Value}
use Rattle.eql_values.specs.Ordered.{in_order}
use Rattle.eql_values.specs.Orders.{key_cmp, key_eq}
use Rattle.eql_values.specs.Totals.{key_cmp_total}
use Rattle.eql_values.proofs.InOrder.{find-in_order, in_order-sorted}
use Rattle.eql_values.proofs.Same.{key_same}
use Rattle.eql_laws.proofs.Facts.{both_hold, left_holds, right_holds, less_is}
use Rattle.eql_auto.specs.Machine.{Machine}
use Rattle.eql_span_list.specs.declared.node.Ticket.{Ticket}
use Rattle.eql_part.specs.declared.table.Room.{Room}
use Rattle.eql_part.specs.KeyTables.{machine_of}
use Rattle.eql_part.specs.Rooms.{Changes, IsHoused, entries_in, key_at, key_in, place_by, row_of, rows_of}
use Rattle.eql_part.proofs.Busy.{own_key}
use Rattle.eql_part.proofs.Housed.{room_there}
use Rattle.eql_part.proofs.Linking.{same_key}
use Rattle.eql_part.proofs.Rows.{Row, none_of}

pub find_is : {X : Type 0} (q : List Value) (es : List (List Value × X)) → find key_cmp q es ≡ lookup (is_at (key_cmp q)) es
find_is q [] = refl
find_is q (e ∷ es) = ap (λ (o : Option _). cond (key_eq q e.0) (Some e.1) o) (find_is q es)

less_from : (o : Ordering) → T (is_lt o) → o ≡ Less
less_from Less h = refl
less_from Equal h = absurd h
less_from Greater h = absurd h

below_is : {X : Type 0} (key : List Value) (es : List (List Value × X)) → T (below_all key_cmp key es) → AllByRecursion (λ y. key_cmp key y ≡ Less) (keys_of es)
below_is key [] h = tt
below_is key (e ∷ es) h = (
  less_from (key_cmp key e.0) (left_holds (is_lt (key_cmp key e.0)) (below_all key_cmp key es) h),
  below_is key es (right_holds (is_lt (key_cmp key e.0)) (below_all key_cmp key es) h),
)

sorted_is : {X : Type 0} (es : List (List Value × X)) → T (is_sorted key_cmp es) → IsStrictlySortedBy key_cmp (keys_of es)
unfolding IsStrictlySortedBy
sorted_is [] h = tt
sorted_is (e ∷ es) h = (
  below_is e.0 es (left_holds (below_all key_cmp e.0 es) (is_sorted key_cmp es) h),
  sorted_is es (right_holds (below_all key_cmp e.0 es) (is_sorted key_cmp es) h),
)

is_below : {X : Type 0} (key : List Value) (es : List (List Value × X)) → AllByRecursion (λ y. key_cmp key y ≡ Less) (keys_of es) → T (below_all key_cmp key es)
is_below key [] h = tt
is_below key (e ∷ es) h = both_hold (is_lt (key_cmp key e.0)) (below_all key_cmp key es) (less_is (key_cmp key e.0) h.0) (is_below key es h.1)

sorted_too : {X : Type 0} (es : List (List Value × X)) → IsStrictlySortedBy key_cmp (keys_of es) → T (is_sorted key_cmp es)
sorted_too [] h = tt
sorted_too (e ∷ es) h =
    both_hold (below_all key_cmp e.0 es) (is_sorted key_cmp es) (is_below e.0 es (sorted_head key_cmp e.0 (keys_of es) h)) (sorted_too es (sorted_tail key_cmp e.0 (keys_of es) h))

-- entries in order with the same look-ups are the same
pub same_rows : (es fs : List (Row Ticket)) → IsStrictlySortedBy key_cmp (keys_of es) → IsStrictlySortedBy key_cmp (keys_of fs) → ((q : List Value) → machine_of es q ≡ machine_of fs q) → es ≡ fs
same_rows es fs sorted ordered is = same_entries key_cmp key_cmp_total key_same es fs (sorted_too es sorted) (sorted_too fs ordered) (λ q. find_is q es ∙ is q ∙ sym (find_is q fs))

tail_one : (P : Machine Ticket → Type 0) (b : Bool) (machine : Machine Ticket) (o : Option (Machine Ticket)) → (b ≡ true → o ≡ None) → IfSome (cond b (Some machine) o) P → IfSome o P
tail_one P true machine o none h = subst (λ (p : Option (Machine Ticket)). IfSome p P) (sym (none refl)) tt
tail_one P false machine o none h = h

-- what holds of each machine that a look-up finds holds of all
pub all_found : (P : Machine Ticket → Type 0) (es : List (Row Ticket)) → IsStrictlySortedBy key_cmp (keys_of es) → ((q : List Value) → IfSome (machine_of es q) P) → All P (values_of es)
all_found P [] sorted h = All-nil P
all_found P (e ∷ es) sorted h =
    All-cons P e.1 (values_of es) (subst (λ (b : Bool). IfSome (cond b (Some e.1) (machine_of es e.0)) P) (own_key e.0) (h e.0))
    (all_found P es (sorted_tail key_cmp e.0 (keys_of es) sorted)
    (λ q. tail_one P (key_eq q e.0) e.1 (machine_of es q) (λ same. none_of e.0 q es (same_key q e.0 same) (sorted_head key_cmp e.0 (keys_of es) sorted)) (h q)))

-- the machines changed at one key
pub changes : (key : List Value) (o : Option (Machine Ticket)) (old new : List (Row Ticket)) → machine_of new key ≡ o → ((q : List Value) → key_eq key q ≡ false → machine_of new q ≡ machine_of old q) → Changes key o old new
changes key o old new own others q = by (key_eq key q) refl
  where
    by : (b : Bool) → key_eq key q ≡ b → machine_of new q ≡ cond b o (machine_of old q)
    by true e = ap (machine_of new) (sym (same_key key q e)) ∙ own
    by false e = others q e

pub changed_own : (key : List Value) (o : Option (Machine Ticket)) (old new : List (Row Ticket)) → Changes key o old new → machine_of new key ≡ o
changed_own key o old new change = change key ∙ ap (λ (b : Bool). cond b o (machine_of old key)) (own_key key)

pub changed_others : (key : List Value) (o : Option (Machine Ticket)) (old new : List (Row Ticket)) → Changes key o old new → (q : List Value) → key_eq key q ≡ false → machine_of new q ≡ machine_of old q
changed_others key o old new change q ne = change q ∙ ap (λ (b : Bool). cond b o (machine_of old q)) ne

-- the machine of a key is written
pub written : (key : List Value) (w machine : Machine Ticket) (old new : List (Row Ticket)) → IsStrictlySortedBy key_cmp (keys_of old) → IsStrictlySortedBy key_cmp (keys_of new) → machine_of old key ≡ Some machine → Changes key (Some w) old new
    → new ≡ set_value (is_at (key_cmp key)) old w
written key w machine old new sorted ordered found change =
    let test = is_at (key_cmp key) in
    same_rows new (set_value test old w) ordered (subst (IsStrictlySortedBy key_cmp) (sym (keys-set_value test old w)) sorted)
    (λ q. change q
    ∙ sym
    (lookup-set_value (eq_by_cmp_equiv key_cmp_total) test (λ x y same. ap (λ (k : List Value). key_eq k y) (same_key key x same)) q w old
    (subst IsSome (sym found) refl)))

module _ {L : Type 0} where
  abbrev pub to_row : Room L → Option (List Value) → List (Row Ticket) → List (Row Ticket)
  to_row room o rest = cons_option (option_map (λ (key : List Value). (key, room.machine)) o) rest

  row_here : (rooms : List (Room L)) (p : ℕ) (room : Room L) (key : List Value) → slice_get rooms p ≡ Some room → room.key ≡ Some key → ((q : ℕ) → key_at rooms q ≡ Some key → q ≡ p)
      → find key_cmp key (rows_of rooms) ≡ Some room.machine
  row_here [] p room key at has only = cc
  row_here (r ∷ rooms) zero room key at has only =
      let same : r ≡ room = cc in
      ap (λ (o : Option (List Value)). find key_cmp key (to_row r o (rows_of rooms))) (ap (λ (x : Room L). x.key) same ∙ has)
      ∙ ap (λ (b : Bool). cond b (Some r.machine) (find key_cmp key (rows_of rooms))) (own_key key)
      ∙ ap (λ (x : Room L). Some x.machine) same
  row_here (r ∷ rooms) (suc p) room key at has only = by r.key refl (row_here rooms p room key at has (λ q is. let same = only (suc q) is in omega (arith, same)))
    where
      by : (o : Option (List Value)) → r.key ≡ o → find key_cmp key (rows_of rooms) ≡ Some room.machine → find key_cmp key (rows_of (r ∷ rooms)) ≡ Some room.machine
      by None e more = ap (λ (o : Option (List Value)). find key_cmp key (to_row r o (rows_of rooms))) e ∙ more
      by (Some k) e more = ap (λ (o : Option (List Value)). find key_cmp key (to_row r o (rows_of rooms))) e ∙ one (key_eq key k) refl
        where
          one : (b : Bool) → key_eq key k ≡ b → cond b (Some r.machine) (find key_cmp key (rows_of rooms)) ≡ Some room.machine
          one true t = let wrong = only 0 (e ∙ ap Some (sym (same_key key k t))) in absurd (omega (arith, wrong))
          one false t = more

  pub row_none : (rooms : List (Room L)) (key : List Value) → ((q : ℕ) → key_at rooms q ≡ Some key → ⊥) → find key_cmp key (rows_of rooms) ≡ None
  row_none [] key none = refl
  row_none (r ∷ rooms) key none = by r.key refl (row_none rooms key (λ q is. none (suc q) is))
    where
      by : (o : Option (List Value)) → r.key ≡ o → find key_cmp key (rows_of rooms) ≡ None → find key_cmp key (rows_of (r ∷ rooms)) ≡ None
      by None e more = ap (λ (o : Option (List Value)). find key_cmp key (to_row r o (rows_of rooms))) e ∙ more
      by (Some k) e more = ap (λ (o : Option (List Value)). find key_cmp key (to_row r o (rows_of rooms))) e ∙ one (key_eq key k) refl
        where
          one : (b : Bool) → key_eq key k ≡ b → cond b (Some r.machine) (find key_cmp key (rows_of rooms)) ≡ None
          one true t = absurd (none 0 (e ∙ ap Some (sym (same_key key k t))))
          one false t = more

  -- the entries are in order
  pub entries_sorted : (rooms : List (Room L)) → IsStrictlySortedBy key_cmp (keys_of (entries_in rooms))
  entries_sorted rooms = sorted_is (entries_in rooms) (in_order-sorted key_cmp key_cmp_total (rows_of rooms))

  pub machine_is : (rooms : List (Room L)) (q : List Value) → machine_of (entries_in rooms) q ≡ find key_cmp q (rows_of rooms)
  machine_is rooms q = sym (find_is q (entries_in rooms)) ∙ find-in_order key_cmp key_cmp_total q (rows_of rooms)

  at_room : (o : Option (Room L)) (key : List Value) → key_in o ≡ Some key → (room : Room L) × (o ≡ Some room) × (room.key ≡ Some key)
  at_room None key e = cc
  at_room (Some room) key e = (room, refl, e)

  -- the room at a place with a key
  pub room_of : (rooms : List (Room L)) (p : ℕ) (key : List Value) → key_at rooms p ≡ Some key → (room : Room L) × (slice_get rooms p ≡ Some room) × (room.key ≡ Some key)
  room_of rooms p key e = at_room (slice_get rooms p) key e

  module _ (under : ℕ → Option ℕ) (other : List Value → Option ℕ) (rooms : List (Room L)) (h : IsHoused under other rooms) where
    -- the machine of a key is that of its room
    pub machine_there : (key : List Value) (p : ℕ) (room : Room L) → place_by under other rooms key ≡ Some p → slice_get rooms p ≡ Some room → machine_of (entries_in rooms) key ≡ Some room.machine
    machine_there key p room placed at =
        let has = room_there under other rooms h key p placed in
        machine_is rooms key
        ∙ row_here rooms p room key at (sym (ap key_in at) ∙ has) (λ q is. let one : Some q ≡ Some p = sym (h.found q key is) ∙ placed in cc)

    -- a key without a place has none
    pub machine_none : (key : List Value) → place_by under other rooms key ≡ None → machine_of (entries_in rooms) key ≡ None
    machine_none key none = machine_is rooms key ∙ row_none rooms key (λ q is. let wrong = sym none ∙ h.found q key is in cc)

    -- where a key's place and its room are as they were, so is its machine
    module _ (now_under : ℕ → Option ℕ) (now_other : List Value → Option ℕ) (now : List (Room L)) (g : IsHoused now_under now_other now) where
      pub machine_stays : (q : List Value) → place_by now_under now_other now q ≡ place_by under other rooms q → ((p : ℕ) → key_at rooms p ≡ Some q → slice_get now p ≡ slice_get rooms p)
          → machine_of (entries_in now) q ≡ machine_of (entries_in rooms) q
      machine_stays q same stays = by (place_by under other rooms q) refl
        where
          by : (o : Option ℕ) → place_by under other rooms q ≡ o → machine_of (entries_in now) q ≡ machine_of (entries_in rooms) q
          by None e = machine_of_none ∙ sym (machine_none q e)
            where
              machine_of_none : machine_of (entries_in now) q ≡ None
              machine_of_none = machine_is now q ∙ row_none now q (λ r is. let wrong = sym (same ∙ e) ∙ g.found r q is in cc)
          by (Some p) e =
              let has = room_there under other rooms h q p e in let room = room_of rooms p q has in
              let at : slice_get now p ≡ Some room.0 = stays p has ∙ room.1 in
              (machine_is now q ∙ row_here now p room.0 q at room.2 (λ r is. let one : Some r ≡ Some p = sym (g.found r q is) ∙ same ∙ e in cc)) ∙ sym (machine_there q p room.0 e room.1)

  -- one more room has one more key, or none
  pub rows_more : (rooms : List (Room L)) (i : ℕ) (room : Room L) → take (i + 1) rooms ≡ take i rooms ++ room ∷ [] → length (rows_of (take (i + 1) rooms)) ≡ length (rows_of (take i rooms)) + (if is_some room.key then 1 else 0)
  rows_more rooms i room more =
      ap (λ (l : List (Room L)). length (rows_of l)) more
      ∙ ap length (filter_map-append row_of (take i rooms) (room ∷ []))
      ∙ length-append (rows_of (take i rooms)) (to_row room room.key [])
      ∙ ap (λ (n : ℕ). length (rows_of (take i rooms)) + n) (one room.key)
    where
      one : (o : Option (List Value)) → length (to_row room o []) ≡ (if is_some o then 1 else 0)
      one None = refl
      one (Some key) = refl

  -- putting the keys in order loses none
  rows_count : (rooms : List (Room L)) → ((p q : ℕ) (key : List Value) → key_at rooms p ≡ Some key → key_at rooms q ≡ Some key → p ≡ q) → length (entries_in rooms) ≡ length (rows_of rooms)
  rows_count [] apart = refl
  rows_count (r ∷ rooms) apart = by r.key refl (rows_count rooms (λ p q key a b. let same = apart (suc p) (suc q) key a b in omega (arith, same)))
    where
      put_one : (k : List Value) (v : Machine Ticket) (es : List (Row Ticket)) → find key_cmp k es ≡ None → length (put key_cmp k v es) ≡ suc (length es)
      put_one k v [] none = refl
      put_one k v (e ∷ es) none = one (key_cmp k e.0) refl (put_one k v es)
        where
          one : (o : Ordering) → key_cmp k e.0 ≡ o → (find key_cmp k es ≡ None → length (put key_cmp k v es) ≡ suc (length es))
              → length (by_order o ((k, v) ∷ e ∷ es) ((e.0, v) ∷ es) (e ∷ put key_cmp k v es)) ≡ suc (suc (length es))
          one Less t more = refl
          one Equal t more = let wrong = sym (ap (λ (x : Ordering). cond (is_eq x) (Some e.1) (find key_cmp k es)) t) ∙ none in cc
          one Greater t more = ap suc (more (sym (ap (λ (x : Ordering). cond (is_eq x) (Some e.1) (find key_cmp k es)) t) ∙ none))

      by : (o : Option (List Value)) → r.key ≡ o → length (entries_in rooms) ≡ length (rows_of rooms) → length (entries_in (r ∷ rooms)) ≡ length (rows_of (r ∷ rooms))
      by None e more = ap (λ (o : Option (List Value)). length (in_order key_cmp (to_row r o (rows_of rooms)))) e ∙ more ∙ sym (ap (λ (o : Option (List Value)). length (to_row r o (rows_of rooms))) e)
      by (Some k) e more =
          ap (λ (o : Option (List Value)). length (in_order key_cmp (to_row r o (rows_of rooms)))) e
          ∙ put_one k r.machine (entries_in rooms)
          (find-in_order key_cmp key_cmp_total k (rows_of rooms) ∙ row_none rooms k (λ q is. let wrong = apart 0 (suc q) k e is in absurd (omega (arith, wrong))))
          ∙ ap suc more
          ∙ sym (ap (λ (o : Option (List Value)). length (to_row r o (rows_of rooms))) e)

  pub housed_count : (under : ℕ → Option ℕ) (other : List Value → Option ℕ) (rooms : List (Room L)) → IsHoused under other rooms → length (entries_in rooms) ≡ length (rows_of rooms)
  housed_count under other rooms h = rows_count rooms (λ p q key a b. let one : Some p ≡ Some q = sym (h.found p key a) ∙ h.found q key b in cc)
