-- The keys with their machines, put in order by their keys.
use Rattle.std.proofs.Common.{◌≡◌, ◌<◌, ◌+◌, ℕ, suc, Bool, true, false, cond, List, [], ◌∷◌, ◌++◌, Option, Some, None, length, map, refl, sym, ap, ◌∙◌, subst, arith}
use Rattle.std.specs.Prelude.{IsPermutation, take}
use Rattle.std.specs.Cmp.{IsEquivalence, eq_by_cmp_equiv}
use Rattle.std.specs.FinMap.Entries.{find}
use Rattle.std.proofs.Math.ListN.{get_or}
use Rattle.std.specs.List.{AllByRecursion, IsDistinct}
use Rattle.std.specs.List.Sorted.{IsSortedBy, IsStrictlySortedBy}
use Rattle.std.specs.Map.{keys_of, lookup}
use Rattle.std.specs.Ordering.{is_eq, is_lt, ordering_reverse}
use Rattle.std.specs.declared.cmp.Ordering.{Ordering}
use Rattle.std.specs.declared.cmp.Ordering.TheVariants.{Less, Equal, Greater}
use Rattle.std.proofs.lemmas.List.{append-nil, get_or-map, length-map}
use Rattle.std.proofs.lemmas.List.Elements.{filter_map-append}
use Rattle.std.proofs.lemmas.List.Sorted.{Contains-permutation, IsPermutation-map, IsPermutation-sym}
use Rattle.std.proofs.lemmas.Map.Keys.{IsDistinct-IsPermutation, apart_from_distinct, sorted_from_all_adjacent}
use Rattle.std.proofs.lemmas.Map.Views.{Contains-from_lookup, lookup-from_Contains}
use Rattle.eql_values.specs.declared.value.Value.{Value}
use Rattle.eql_values.specs.Orders.{key_cmp, key_eq}
use Rattle.eql_values.specs.Totals.{key_cmp_total}
use Rattle.eql_auto.specs.Machine.{Machine}
use Rattle.eql_span_list.specs.declared.node.Ticket.{Ticket}
use Rattle.eql_part.specs.declared.table.Room.{Room}
use Rattle.eql_part.specs.KeyTables.{machine_of}
use Rattle.eql_part.specs.Rooms.{IsHoused, entries_in, key_at, row_of, rows_of}
use Rattle.eql_part.proofs.Linking.{same_key}
use Rattle.eql_part.proofs.Looked.{entries_sorted, find_is, machine_is, row_none, same_rows, to_row}
use Rattle.eql_part.proofs.Rows.{Row}

-- neither of two keys is after the other where they stand, and they aren't one
in_turn : (o back : Ordering) → o ≡ ordering_reverse back → is_lt back ≡ false → is_eq o ≡ false → o ≡ Less
in_turn Less back e late apart = refl
in_turn Equal back e late apart = cc
in_turn Greater Less e late apart = cc
in_turn Greater Equal e late apart = cc
in_turn Greater Greater e late apart = cc

-- a key that isn't found is none of them
none_there : {X : Type 0} (key : List Value) (es : List (List Value × X)) → find key_cmp key es ≡ None → AllByRecursion (λ q. key_eq key q ≡ false) (keys_of es)
none_there key [] none = tt
none_there key (e ∷ es) none = by (key_eq key e.0) refl (none_there key es)
  where
    by : (b : Bool) → key_eq key e.0 ≡ b → (find key_cmp key es ≡ None → AllByRecursion (λ q. key_eq key q ≡ false) (keys_of es)) → AllByRecursion (λ q. key_eq key q ≡ false) (keys_of (e ∷ es))
    by true t rest = let wrong = sym (ap (λ (b : Bool). cond b (Some e.1) (find key_cmp key es)) t) ∙ none in cc
    by false t rest = (t, rest (sym (ap (λ (b : Bool). cond b (Some e.1) (find key_cmp key es)) t) ∙ none))

module _ {X : Type 0} (row : X → Row Ticket) where
  key_there : (xs : List X) (k : ℕ) (d : X) → k < length xs → get_or (keys_of (map row xs)) k [] ≡ (row (get_or xs k d)).0
  key_there xs k d lt =
      let long = length-map xs row in
      get_or-map (λ (e : Row Ticket). e.0) (map row xs) k (row d) [] (omega (arith, lt, long)) ∙ ap (λ (e : Row Ticket). e.0) (get_or-map row xs k d (row d) lt)

  -- rows whose keys differ, and of which none comes before the one before it, ascend
  ascend : (xs : List X) → IsDistinct key_eq (keys_of (map row xs)) → IsSortedBy (λ x y. is_lt (key_cmp (row x).0 (row y).0)) xs → IsStrictlySortedBy key_cmp (keys_of (map row xs))
  unfolding IsStrictlySortedBy
  ascend [] distinct sorted = tt
  ascend (x ∷ xs) distinct sorted =
      let all = x ∷ xs in
      let keys = keys_of (map row all) in
      let rows_long = length-map all row in
      let long = length-map (map row all) (λ (e : Row Ticket). e.0) in
      sorted_from_all_adjacent key_cmp_total keys []
      (λ k lt.
      let here = key_there all k x (omega (arith, lt, long, rows_long)) in
      let next = key_there all (k + 1) x (omega (arith, lt, long, rows_long)) in
      in_turn (key_cmp (get_or keys k []) (get_or keys (k + 1) [])) (key_cmp (get_or keys (k + 1) []) (get_or keys k []))
      (key_cmp_total.antisymm (get_or keys k []) (get_or keys (k + 1) []))
      ((λ i. is_lt (key_cmp (next i) (here i))) ∙ sorted k x (omega arith) (omega (arith, lt, long, rows_long)))
      (apart_from_distinct key_eq keys k (k + 1) [] distinct (omega arith) lt))

module _ {L : Type 0} where
  -- the keys of rooms differ
  keys_differ : (rooms : List (Room L)) → ((p q : ℕ) (key : List Value) → key_at rooms p ≡ Some key → key_at rooms q ≡ Some key → p ≡ q) → IsDistinct key_eq (keys_of (rows_of rooms))
  unfolding IsDistinct
  keys_differ [] apart = tt
  keys_differ (r ∷ rooms) apart = by r.key refl (keys_differ rooms (λ p q key a b. let same = apart (suc p) (suc q) key a b in omega (arith, same)))
    where
      by : (o : Option (List Value)) → r.key ≡ o → IsDistinct key_eq (keys_of (rows_of rooms)) → IsDistinct key_eq (keys_of (rows_of (r ∷ rooms)))
      by None e more = subst (λ (o : Option (List Value)). IsDistinct key_eq (keys_of (to_row r o (rows_of rooms)))) (sym e) more
      by (Some k) e more =
          subst (λ (o : Option (List Value)). IsDistinct key_eq (keys_of (to_row r o (rows_of rooms)))) (sym e)
          (none_there k (rows_of rooms) (row_none rooms k (λ q is. let wrong = apart 0 (suc q) k e is in absurd (omega (arith, wrong)))), more)

  -- one more room has one more row, or none
  rows_more_by : (rooms : List (Room L)) (i : ℕ) (room : Room L) (o : Option (List Value)) → take (i + 1) rooms ≡ take i rooms ++ room ∷ [] → room.key ≡ o → rows_of (take (i + 1) rooms) ≡ rows_of (take i rooms) ++ to_row room o []
  rows_more_by rooms i room o more is =
      ap rows_of more ∙ filter_map-append row_of (take i rooms) (room ∷ []) ∙ ap (λ (o : Option (List Value)). rows_of (take i rooms) ++ to_row room o []) is

  pub row_more : (rooms : List (Room L)) (i : ℕ) (room : Room L) (key : List Value) → take (i + 1) rooms ≡ take i rooms ++ room ∷ [] → room.key ≡ Some key → rows_of (take (i + 1) rooms) ≡ rows_of (take i rooms) ++ (key, room.machine) ∷ []
  row_more rooms i room key more is = rows_more_by rooms i room (Some key) more is

  pub no_row_more : (rooms : List (Room L)) (i : ℕ) (room : Room L) → take (i + 1) rooms ≡ take i rooms ++ room ∷ [] → room.key ≡ None → rows_of (take (i + 1) rooms) ≡ rows_of (take i rooms)
  no_row_more rooms i room more is = rows_more_by rooms i room None more is ∙ append-nil (rows_of (take i rooms))

  module _ {X : Type 0} (row : X → Row Ticket) (under : ℕ → Option ℕ) (other : List Value → Option ℕ) (rooms : List (Room L)) (h : IsHoused under other rooms) where
    -- the rows of the rooms, put in order by their keys, are the entries
    pub sorted_rows_are : (xs ys : List X) → map row xs ≡ rows_of rooms → IsPermutation xs ys → IsSortedBy (λ x y. is_lt (key_cmp (row x).0 (row y).0)) ys → map row ys ≡ entries_in rooms
    sorted_rows_are xs ys is moved sorted =
        same_rows es (entries_in rooms) (ascend row ys distinct sorted) (entries_sorted rooms) (λ q. alike q (lookup (key_eq q) es) (lookup (key_eq q) rows) refl refl ∙ same_find q)
      where
        rows : List (Row Ticket)
        rows = rows_of rooms

        es : List (Row Ticket)
        es = map row ys

        same : IsEquivalence key_eq
        same = eq_by_cmp_equiv key_cmp_total

        were : IsDistinct key_eq (keys_of rows)
        were = keys_differ rooms (λ p q key a b. let one : Some p ≡ Some q = sym (h.found p key a) ∙ h.found q key b in cc)

        among : IsPermutation rows es
        among = subst (λ (l : List (Row Ticket)). IsPermutation l es) is (IsPermutation-map row xs ys moved)

        distinct : IsDistinct key_eq (keys_of es)
        distinct = IsDistinct-IsPermutation key_eq same.symm (keys_of rows) (keys_of es) (IsPermutation-map (λ (e : Row Ticket). e.0) rows es among) were

        one_key : (x y : List Value) → key_eq x y ≡ true → x ≡ y
        one_key x y t = same_key x y t

        there : (q : List Value) (machine : Machine Ticket) → lookup (key_eq q) rows ≡ Some machine → lookup (key_eq q) es ≡ Some machine
        there q machine found =
            lookup-from_Contains same q machine es distinct (Contains-permutation rows es (q, machine) among (Contains-from_lookup one_key q machine rows found))

        was : (q : List Value) (machine : Machine Ticket) → lookup (key_eq q) es ≡ Some machine → lookup (key_eq q) rows ≡ Some machine
        was q machine found =
            lookup-from_Contains same q machine rows were (Contains-permutation es rows (q, machine) (IsPermutation-sym rows es among) (Contains-from_lookup one_key q machine es found))

        alike : (q : List Value) (o p : Option (Machine Ticket)) → lookup (key_eq q) es ≡ o → lookup (key_eq q) rows ≡ p → lookup (key_eq q) es ≡ lookup (key_eq q) rows
        alike q o (Some machine) e f = there q machine f ∙ sym f
        alike q None None e f = e ∙ sym f
        alike q (Some machine) None e f = e ∙ sym (was q machine e)

        same_find : (q : List Value) → lookup (key_eq q) rows ≡ machine_of (entries_in rooms) q
        same_find q = sym (find_is q rows) ∙ sym (machine_is rooms q)
