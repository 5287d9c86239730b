-- The pending sequences of machines by their keys stand by key and stage, and a look-up in them finds what the machine of the key has.
use Rattle.std.proofs.Common.{◌≡◌, ◌≤◌, ℕ, zero, suc, Bool, true, false, cond, List, [], ◌∷◌, ◌++◌, map, length, Option, Some, None, refl, sym, ap, ◌∙◌, subst, arith, T}
use Rattle.std.specs.Prelude.{◌&&◌, All, nat_le, nat_lt}
use Rattle.std.specs.List.{filter_map, flat_map, cons_option, AllByRecursion}
use Rattle.std.specs.Option.{option_map}
use Rattle.std.specs.Map.{keys_of}
use Rattle.std.specs.List.Sorted.{IsStrictlySortedBy}
use Rattle.std.specs.Ordering.{nat_cmp, eq_by_cmp, is_eq, is_lt, ordering_reverse, ordering_then}
use Rattle.std.specs.Cmp.{nat_cmp_is}
use Rattle.std.specs.declared.cmp.Ordering.{Ordering}
use Rattle.std.specs.declared.cmp.Ordering.TheVariants.{Less, Equal, Greater}
use Rattle.std.specs.FinMap.{nat_cmp-IsAntisymmetric}
use Rattle.std.specs.FinMap.Entries.{find, below_all, is_sorted}
use Rattle.std.proofs.lemmas.Bool.Decides.{nat_tests}
use Rattle.std.proofs.lemmas.List.{map-append, get_or_past}
use Rattle.std.proofs.lemmas.List.Elements.{filter_map-append, All-nil, All-cons, All-head, All-tail, All-append, All-weaker}
use Rattle.std.proofs.lemmas.Map.Keys.{sorted_head, sorted_tail}
use Rattle.eql_values.specs.declared.order.OrderKey.{OrderKey}
use Rattle.eql_values.specs.declared.value.Value.{Value}
use Rattle.eql_values.specs.Ordered.{found_or}
use Rattle.eql_values.proofs.InOrder.{both_none, find-append}
use Rattle.eql_values.specs.Orders.{key_eq, key_cmp}
use Rattle.eql_values.specs.Totals.{key_cmp_total}
use Rattle.eql_values.proofs.Same.{key_same}
use Rattle.eql_values.specs.Matching.{Slot, slot_cmp, opening_of, stages_to}
use Rattle.eql_laws.specs.Alive.{HoldersAreInOrder}
use Rattle.eql_laws.specs.Merging.{by_slot}
use Rattle.eql_laws.specs.Slots.{Slots}
use Rattle.eql_laws.proofs.Facts.{is_equal, ties_both, both_hold, left_holds, right_holds, holds_true, less_is, less_not_equal}
use Rattle.eql_auto.specs.Machine.{Machine, chains_of}
use Rattle.eql_part.specs.KeyTables.{holders_of, holders_in, slots_of, machine_of, slots_in}

abbrev pub Entry : Type 0
Entry = Slot × List OrderKey

-- what there is of a key at the stages up to n
abbrev pub row : Slots → List Value → ℕ → List Entry
row slots key n = filter_map (λ (k : ℕ). option_map (λ c. ((key, k), c)) (slots k)) (stages_to n)

by_slot_row : (slots : Slots) (key : List Value) (ks : List ℕ)
    → map by_slot (map (λ (s : ℕ × List OrderKey). record { key = key; stage = s.0; chain = s.1 }) (filter_map (λ k. option_map (λ c. (k, c)) (slots k)) ks))
    ≡ filter_map (λ (k : ℕ). option_map (λ c. ((key, k), c)) (slots k)) ks
by_slot_row slots key [] = refl
by_slot_row slots key (k ∷ ks) = one (slots k) _ _ (by_slot_row slots key ks)
  where
    one : (o : Option (List OrderKey)) (rest : List (ℕ × List OrderKey)) (entries : List Entry)
        → map by_slot (map (λ (s : ℕ × List OrderKey). record { key = key; stage = s.0; chain = s.1 }) rest) ≡ entries
        → map by_slot (map (λ (s : ℕ × List OrderKey). record { key = key; stage = s.0; chain = s.1 }) (cons_option (option_map (λ c. (k, c)) o) rest))
        ≡ cons_option (option_map (λ c. ((key, k), c)) o) entries
    one None rest entries e = e
    one (Some c) rest entries e = ap (λ (l : List Entry). ((key, k), c) ∷ l) e

found_one : (key : List Value) (stage : ℕ) (q : Slot) (o : Option (List OrderKey))
    → find slot_cmp q (cons_option (option_map (λ c. ((key, stage), c)) o) []) ≡ cond (eq_by_cmp slot_cmp q (key, stage)) o None
found_one key stage q None = sym (both_none (eq_by_cmp slot_cmp q (key, stage)))
found_one key stage q (Some c) = refl

same_stage : (slots : Slots) (stage : ℕ) (q : Slot) (a b : Bool) → is_eq (nat_cmp q.1 stage) ≡ b
    → cond (a && b) (slots stage) None ≡ cond (a && b) (slots q.1) None
same_stage slots stage q true true s = sym (ap slots (nat_cmp-IsAntisymmetric q.1 stage (is_equal (nat_cmp q.1 stage) s)))
same_stage slots stage q true false s = refl
same_stage slots stage q false b s = refl

stage_more : (q n : ℕ) (S : Option (List OrderKey))
    → found_or (cond (nat_lt 0 q && nat_le q n) S None) (cond (is_eq (nat_cmp q (suc n))) S None) ≡ cond (nat_lt 0 q && nat_le q (suc n)) S None
stage_more q n S = grind (arith, nat_tests)

no_stage : (q : ℕ) → (nat_lt 0 q && nat_le q 0) ≡ false
no_stage q = grind (arith, nat_tests)

one_key : (a b : Bool) (x y z S : Option (List OrderKey)) → x ≡ cond a y None → found_or y (cond b S None) ≡ z → found_or x (cond (a && b) S None) ≡ cond a z None
one_key true b x y z S e f = ap (λ (o : Option (List OrderKey)). found_or o (cond b S None)) e ∙ f
one_key false b x y z S e f = ap (λ (o : Option (List OrderKey)). found_or o None) e

find_row : (slots : Slots) (key : List Value) (q : Slot) (n : ℕ)
    → find slot_cmp q (row slots key n) ≡ cond (key_eq q.0 key) (cond (nat_lt 0 q.1 && nat_le q.1 n) (slots q.1) None) None
find_row slots key q zero = sym (ap (λ (b : Bool). cond (key_eq q.0 key) (cond b (slots q.1) None) None) (no_stage q.1) ∙ both_none (key_eq q.0 key))
find_row slots key q (suc n) =
    ap (find slot_cmp q) (filter_map-append (λ (k : ℕ). option_map (λ c. ((key, k), c)) (slots k)) (stages_to n) (suc n ∷ []))
    ∙ find-append slot_cmp q (row slots key n) (cons_option (option_map (λ c. ((key, suc n), c)) (slots (suc n))) [])
    ∙ ap (λ (o : Option (List OrderKey)). found_or (find slot_cmp q (row slots key n)) o)
    (found_one key (suc n) q (slots (suc n))
    ∙ ap (λ (b : Bool). cond b (slots (suc n)) None) (ties_both (key_cmp q.0 key) (nat_cmp q.1 (suc n)))
    ∙ same_stage slots (suc n) q (key_eq q.0 key) (is_eq (nat_cmp q.1 (suc n))) refl)
    ∙ one_key (key_eq q.0 key) (is_eq (nat_cmp q.1 (suc n))) _ (cond (nat_lt 0 q.1 && nat_le q.1 n) (slots q.1) None) _ (slots q.1) (find_row slots key q n) (stage_more q.1 n (slots q.1))

-- entries of one key, at stages up to n
abbrev OfRow : List Value → ℕ → Entry → Type 0
OfRow key n e = (e.0.0 ≡ key) × (e.0.1 ≤ n)

of_row : (slots : Slots) (key : List Value) (n : ℕ) → All (OfRow key n) (row slots key n)
of_row slots key zero = All-nil (OfRow key 0)
of_row slots key (suc n) =
    subst (All (OfRow key (suc n))) (sym (filter_map-append (λ (k : ℕ). option_map (λ c. ((key, k), c)) (slots k)) (stages_to n) (suc n ∷ [])))
    (All-append (OfRow key (suc n)) (row slots key n) (cons_option (option_map (λ c. ((key, suc n), c)) (slots (suc n))) [])
    (All-weaker (OfRow key n) (OfRow key (suc n)) (λ e h. let le = h.1 in (h.0, omega arith)) (row slots key n) (of_row slots key n))
    (last (slots (suc n))))
  where
    last : (o : Option (List OrderKey)) → All (OfRow key (suc n)) (cons_option (option_map (λ c. ((key, suc n), c)) o) [])
    last None = All-nil (OfRow key (suc n))
    last (Some c) = All-cons (OfRow key (suc n)) ((key, suc n), c) [] (refl, omega arith) (All-nil (OfRow key (suc n)))

-- all entries come after a slot
abbrev After : Slot → Entry → Type 0
After s e = slot_cmp s e.0 ≡ Less

below_from : (s : Slot) (es : List Entry) → All (After s) es → T (below_all slot_cmp s es)
below_from s [] h = tt
below_from s (e ∷ es) h =
    both_hold (is_lt (slot_cmp s e.0)) (below_all slot_cmp s es) (less_is (slot_cmp s e.0) (All-head (After s) e es h)) (below_from s es (All-tail (After s) e es h))

below_append : (s : Slot) (xs ys : List Entry) → T (below_all slot_cmp s xs) → T (below_all slot_cmp s ys) → T (below_all slot_cmp s (xs ++ ys))
below_append s [] ys h k = k
below_append s (x ∷ xs) ys h k =
    both_hold (is_lt (slot_cmp s x.0)) (below_all slot_cmp s (xs ++ ys)) (left_holds (is_lt (slot_cmp s x.0)) (below_all slot_cmp s xs) h)
    (below_append s xs ys (right_holds (is_lt (slot_cmp s x.0)) (below_all slot_cmp s xs) h) k)

sorted_append : (xs ys : List Entry) → T (is_sorted slot_cmp xs) → T (is_sorted slot_cmp ys) → All (λ (x : Entry). All (After x.0) ys) xs → T (is_sorted slot_cmp (xs ++ ys))
sorted_append [] ys h k between = k
sorted_append (x ∷ xs) ys h k between =
    both_hold (below_all slot_cmp x.0 (xs ++ ys)) (is_sorted slot_cmp (xs ++ ys))
    (below_append x.0 xs ys (left_holds (below_all slot_cmp x.0 xs) (is_sorted slot_cmp xs) h) (below_from x.0 ys (All-head (λ (x : Entry). All (After x.0) ys) x xs between)))
    (sorted_append xs ys (right_holds (below_all slot_cmp x.0 xs) (is_sorted slot_cmp xs) h) k (All-tail (λ (x : Entry). All (After x.0) ys) x xs between))

pub own_reverse : (o : Ordering) → o ≡ ordering_reverse o → o ≡ Equal
own_reverse Less e = cc
own_reverse Equal e = refl
own_reverse Greater e = cc

-- a later stage of the same key comes after
later_stage : (key : List Value) (n : ℕ) (e : Entry) → OfRow key n e → slot_cmp e.0 (key, suc n) ≡ Less
later_stage key n e h =
    let le = h.1 in
    ap (λ (o : Ordering). ordering_then o (nat_cmp e.0.1 (suc n)))
    (ap (λ (k : List Value). key_cmp k key) h.0 ∙ own_reverse (key_cmp key key) (key_cmp_total.antisymm key key))
    ∙ sym (nat_cmp_is e.0.1 (suc n) Less (omega arith))

-- any stage of a later key comes after
later_key : (s : Slot) (e : Entry) → key_cmp s.0 e.0.0 ≡ Less → slot_cmp s e.0 ≡ Less
later_key s e h = ap (λ (o : Ordering). ordering_then o (nat_cmp s.1 e.0.1)) h

sorted_row : (slots : Slots) (key : List Value) (n : ℕ) → T (is_sorted slot_cmp (row slots key n))
sorted_row slots key zero = tt
sorted_row slots key (suc n) =
    subst (λ (es : List Entry). T (is_sorted slot_cmp es)) (sym (filter_map-append (λ (k : ℕ). option_map (λ c. ((key, k), c)) (slots k)) (stages_to n) (suc n ∷ [])))
    (last (slots (suc n)) (sorted_row slots key n))
  where
    last : (o : Option (List OrderKey)) → T (is_sorted slot_cmp (row slots key n)) → T (is_sorted slot_cmp (row slots key n ++ cons_option (option_map (λ c. ((key, suc n), c)) o) []))
    last None before = sorted_append (row slots key n) [] before tt (All-weaker (OfRow key n) (λ (x : Entry). All (After x.0) []) (λ x h. All-nil (After x.0)) (row slots key n) (of_row slots key n))
    last (Some c) before =
        sorted_append (row slots key n) (((key, suc n), c) ∷ []) before tt
        (All-weaker (OfRow key n) (λ (x : Entry). All (After x.0) (((key, suc n), c) ∷ []))
        (λ x h. All-cons (After x.0) ((key, suc n), c) [] (later_stage key n x h) (All-nil (After x.0))) (row slots key n) (of_row slots key n))

-- a key with its machine
abbrev pub Row : Type 0 → Type 0
Row X = List Value × Machine X

module _ {X : Type 0} where
  -- what there is of all keys
  abbrev pub rows : List (Row X) → List Entry
  rows es = flat_map (λ (e : Row X). row (chains_of e.1.slots) e.0 (length e.1.slots)) es

  by_slot_rows : (es : List (Row X)) → map by_slot (holders_in es) ≡ rows es
  by_slot_rows [] = refl
  by_slot_rows (e ∷ es) =
      map-append by_slot (holders_of e) (holders_in es)
      ∙ (λ i. by_slot_row (chains_of e.1.slots) e.0 (stages_to (length e.1.slots)) i ++ by_slot_rows es i)

  -- the keys of entries come after a key
  rows_after : (key : List Value) (es : List (Row X)) → AllByRecursion (λ q. key_cmp key q ≡ Less) (keys_of es) → (s : Slot) → s.0 ≡ key → All (After s) (rows es)
  rows_after key [] h s is = All-nil (After s)
  rows_after key (e ∷ es) h s is =
      All-append (After s) (row (chains_of e.1.slots) e.0 (length e.1.slots)) (rows es)
      (All-weaker (OfRow e.0 (length e.1.slots)) (After s)
      (λ x of. later_key s x (ap (λ (k : List Value). key_cmp k x.0.0) is ∙ ap (key_cmp key) of.0 ∙ h.0))
      (row (chains_of e.1.slots) e.0 (length e.1.slots)) (of_row (chains_of e.1.slots) e.0 (length e.1.slots)))
      (rows_after key es h.1 s is)

  sorted_rows : (es : List (Row X)) → IsStrictlySortedBy key_cmp (keys_of es) → T (is_sorted slot_cmp (rows es))
  sorted_rows [] h = tt
  sorted_rows (e ∷ es) h =
      let slots = chains_of e.1.slots in let n = length e.1.slots in
      sorted_append (row slots e.0 n) (rows es) (sorted_row slots e.0 n) (sorted_rows es (sorted_tail key_cmp e.0 (keys_of es) h))
      (All-weaker (OfRow e.0 n) (λ (x : Entry). All (After x.0) (rows es))
      (λ x of. rows_after e.0 es (sorted_head key_cmp e.0 (keys_of es) h) x.0 of.0) (row slots e.0 n) (of_row slots e.0 n))

  -- the pending sequences of machines in the order of their keys stand by key and stage
  pub holders_in_order : (es : List (Row X)) → IsStrictlySortedBy key_cmp (keys_of es) → HoldersAreInOrder (holders_in es)
  holders_in_order es h = holds_true _ (subst (λ (l : List Entry). T (is_sorted slot_cmp l)) (sym (by_slot_rows es)) (sorted_rows es h))

  -- a key before all others is none of them
  pub none_of : (key q : List Value) (es : List (Row X)) → q ≡ key → AllByRecursion (λ k. key_cmp key k ≡ Less) (keys_of es) → machine_of es q ≡ None
  none_of key q [] is h = refl
  none_of key q (e ∷ es) is h =
      ap (λ (b : Bool). cond b (Some e.1) (machine_of es q)) (less_not_equal (key_cmp q e.0) (less_is (key_cmp q e.0) (ap (λ (k : List Value). key_cmp k e.0) is ∙ h.0)))
      ∙ none_of key q es is h.1

  beyond : (machine : Machine X) (k : ℕ) (b : Bool) → (nat_lt 0 k && nat_le k (length machine.slots)) ≡ b → cond b (chains_of machine.slots k) None ≡ chains_of machine.slots k
  beyond machine k true e = refl
  beyond machine zero false e = refl
  beyond machine (suc k) false e =
      let past : length machine.slots ≤ k = grind (arith, nat_tests) in
      sym (ap (option_map (λ s. s.0)) (get_or_past machine.slots k None past))

  first_or : (b : Bool) (found : Option (List OrderKey)) (machine : Machine X) (rest : Option (Machine X)) (k : ℕ) → found ≡ chains_of machine.slots k → (b ≡ true → rest ≡ None)
      → found_or (cond b found None) (slots_of rest k) ≡ slots_of (cond b (Some machine) rest) k
  first_or false found machine rest k is alone = refl
  first_or true None machine rest k is alone = ap (λ (o : Option (Machine X)). slots_of o k) (alone refl) ∙ is
  first_or true (Some c) machine rest k is alone = is

  find_rows : (es : List (Row X)) → IsStrictlySortedBy key_cmp (keys_of es) → (q : Slot) → find slot_cmp q (rows es) ≡ slots_in es q.0 q.1
  find_rows [] h q = refl
  find_rows (e ∷ es) h q =
      let slots = chains_of e.1.slots in let n = length e.1.slots in
      find-append slot_cmp q (row slots e.0 n) (rows es)
      ∙ (λ i. found_or (find_row slots e.0 q n i) (find_rows es (sorted_tail key_cmp e.0 (keys_of es) h) q i))
      ∙ first_or (key_eq q.0 e.0) (cond (nat_lt 0 q.1 && nat_le q.1 n) (slots q.1) None) e.1 (machine_of es q.0) q.1
      (beyond e.1 q.1 (nat_lt 0 q.1 && nat_le q.1 n) refl)
      (λ same. none_of e.0 q.0 es (key_same q.0 e.0 (is_equal (key_cmp q.0 e.0) same)) (sorted_head key_cmp e.0 (keys_of es) h))

  -- a look-up in the pending sequences finds what the machine of the key has
  pub looks_up : (es : List (Row X)) → IsStrictlySortedBy key_cmp (keys_of es) → (key : List Value) (stage : ℕ) → opening_of (holders_in es) key stage ≡ slots_in es key stage
  looks_up es h key stage = ap (find slot_cmp (key, stage)) (by_slot_rows es) ∙ find_rows es h (key, stage)
