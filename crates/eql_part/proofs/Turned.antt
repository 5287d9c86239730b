-- What a machine of a key gives, and what a new one changes.
use Rattle.std.proofs.Common.{◌≡◌, ◌≤◌, ℕ, zero, suc, ◌-◌, ℤ, Bool, true, false, cond, List, Option, Some, None, refl, sym, ap, ◌∙◌, subst, [], length, replicate, get_or, arith}
use Rattle.std.specs.Prelude.{All, IfSome, IsTrue, nat_lt}
use Rattle.std.specs.Borrow.{MutBor}
use Rattle.std.specs.Option.{option_copied_mut, option_map, IsSomeAnd, IsSome}
use Rattle.std.specs.Result.{IfOk, OnErr}
use Rattle.std.specs.declared.result.Result.{Result}
use Rattle.std.specs.declared.result.Result.TheVariants.{Ok, Err}
use Rattle.std.specs.Ordering.{is_eq}
use Rattle.std.specs.BTreeMap.{is_at}
use Rattle.std.proofs.lemmas.List.Elements.{All-from_get_or}
use Rattle.std.proofs.lemmas.List.{get_or-replicate, get_or_past, length-replicate}
use Rattle.std.proofs.lemmas.Bool.Decides.{nat_tests}
use Rattle.std.proofs.lemmas.Map.Views.{IfSome-lookup_from_All}
use Rattle.eql_values.specs.declared.order.OrderKey.{OrderKey}
use Rattle.eql_values.specs.declared.value.Value.{Value}
use Rattle.eql_values.specs.Orders.{key_cmp}
use Rattle.eql_values.proofs.Same.{key_same}
use Rattle.eql_laws.proofs.Elements.{some_is}
use Rattle.eql_laws.proofs.Facts.{is_equal}
use Rattle.eql_auto.specs.Machine.{Machine, Sequence, AllAreBefore, ComesAfter, slot_at, tags_of}
use Rattle.eql_part.specs.KeyTables.{IsOf, AreOf, KeepsReady, KeepsSequences, sequence_of, sequences_in, slots_of, machine_of, slots_in}
use Rattle.eql_part.specs.Links.{Differ}
use Rattle.eql_part.proofs.Rows.{Row}
use Rattle.eql_part.proofs.Differing.{differ_nil}
use Rattle.eql_part.proofs.Tagging.{no_sequence, no_tags}

-- what a look-up lends is what the map has
pub found_there : {Y : Type 0} {lent : Option (MutBor Y)} {x : MutBor Y} {o : Option Y} → lent ≡ Some x → option_copied_mut lent ≡ o → o ≡ Some x.now
found_there is got = sym got ∙ ap option_copied_mut is

default_by : {A : Type 0} (n k : ℕ) (d : A) (b : Bool) → nat_lt k n ≡ b → get_or (replicate n d) k d ≡ d
default_by n k d true e = get_or-replicate n k d d (grind (arith, nat_tests))
default_by n k d false e = get_or_past (replicate n d) k d (let len = length-replicate n d in grind (arith, nat_tests))

-- any element of equal ones, or the default that is equal to them
default_in : {A : Type 0} (n k : ℕ) (d : A) → get_or (replicate n d) k d ≡ d
default_in n k d = default_by n k d (nat_lt k n) refl

module _ {X : Type 0} where
  -- the machine found is of the stages and the span
  pub found_of : (m : ℕ) (span : Option ℤ) (es : List (Row X)) (key : List Value) (machine : Machine X) → AreOf m span es → machine_of es key ≡ Some machine → IsOf m span machine
  found_of m span es key machine of found = some_is (IsOf m span) (machine_of es key) machine found (IfSome-lookup_from_All (IsOf m span) (is_at (key_cmp key)) es of)

  slot_later : (order : OrderKey) (o : Option (Sequence X)) → IfSome (option_map (λ s. s.0) o) (AllAreBefore order) → ComesAfter order o
  slot_later order None h = tt
  slot_later order (Some s) h = h

  -- an event after all of a machine's chains
  pub later_slots : (order : OrderKey) (machine : Machine X) → ((k : ℕ) → IfSome (slots_of (Some machine) k) (AllAreBefore order)) → All (ComesAfter order) machine.slots
  later_slots order machine h =
      All-from_get_or (ComesAfter order) machine.slots None (λ i lt. slot_later order (get_or machine.slots i None) (h (suc i)))

  -- a ready machine is there
  pub ready_is : (o : Option (Machine X)) (machine : Machine X) → o ≡ Some machine → IsSomeAnd o (λ machine. IsTrue machine.is_ready) → IsTrue machine.is_ready
  ready_is o machine e h = subst (λ (p : Option (Machine X)). IsSomeAnd p (λ machine. IsTrue machine.is_ready)) e h

  -- a machine without sequences has none at any stage
  pub empty_slots : (n k : ℕ) (machine : Machine X) → machine.slots ≡ replicate n None → slot_at machine.slots k ≡ None
  empty_slots n zero machine e = refl
  empty_slots n (suc k) machine e = ap (λ (l : List (Option (Sequence X))). get_or l k None) e ∙ default_in n k None

  absent_too : (es : List (Row X)) (key q : List Value) → machine_of es key ≡ None → is_eq (key_cmp key q) ≡ true → machine_of es q ≡ None
  absent_too es key q none same = ap (machine_of es) (sym (key_same key q (is_equal (key_cmp key q) same))) ∙ none

  keeps_one : (b : Bool) (machine : Machine X) (o : Option (Machine X)) (k : ℕ) → slot_at machine.slots k ≡ None → (b ≡ true → o ≡ None) → sequence_of (cond b (Some machine) o) k ≡ sequence_of o k
  keeps_one false machine o k empty absent = refl
  keeps_one true machine o k empty absent = empty ∙ sym (ap (λ (p : Option (Machine X)). sequence_of p k) (absent refl))

  -- a machine without sequences for a key that had none keeps all sequences
  pub added_keeps : (old new : List (Row X)) (key : List Value) (machine : Machine X) → tags_of machine.slots ≡ [] → machine_of old key ≡ None
      → ((q : List Value) → machine_of new q ≡ cond (is_at (key_cmp key) q) (Some machine) (machine_of old q)) → KeepsSequences old new
  added_keeps old new key machine empty none is q k =
      ap (λ (o : Option (Machine X)). sequence_of o k) (is q)
      ∙ keeps_one (is_at (key_cmp key) q) machine (machine_of old q) k (no_sequence machine.slots k empty) (absent_too old key q none)

  abbrev IsReady : Option (Machine X) → Type 0
  IsReady o = IsSomeAnd o (λ machine. IsTrue machine.is_ready)

  ready_one : (b : Bool) (o p : Option (Machine X)) → (b ≡ true → IsReady p → IsReady o) → IsReady p → IsReady (cond b o p)
  ready_one true o p gives h = gives refl h
  ready_one false o p gives h = h

  -- a machine for a key that had none takes no other's room
  pub added_ready : (old new : List (Row X)) (key : List Value) (machine : Machine X) → machine_of old key ≡ None
      → ((q : List Value) → machine_of new q ≡ cond (is_at (key_cmp key) q) (Some machine) (machine_of old q)) → KeepsReady old new
  added_ready old new key machine none is q h =
      subst IsReady (sym (is q))
      (ready_one (is_at (key_cmp key) q) (Some machine) (machine_of old q) (λ same was. absurd (subst IsReady (absent_too old key q none same) was)) h)

  slots_one : (b : Bool) (w machine : Machine X) (o : Option (Machine X)) (k : ℕ) → w.slots ≡ machine.slots → (b ≡ true → o ≡ Some machine) → sequence_of (cond b (Some w) o) k ≡ sequence_of o k
  slots_one false w machine o k same is = refl
  slots_one true w machine o k same is = ap (λ l. slot_at l k) same ∙ sym (ap (λ (p : Option (Machine X)). sequence_of p k) (is refl))

  found_too : (es : List (Row X)) (key q : List Value) (machine : Machine X) → machine_of es key ≡ Some machine → is_eq (key_cmp key q) ≡ true → machine_of es q ≡ Some machine
  found_too es key q machine found same = ap (machine_of es) (sym (key_same key q (is_equal (key_cmp key q) same))) ∙ found

  -- a machine with the same slots in place of one keeps all sequences
  pub replaced_keeps : (old new : List (Row X)) (key : List Value) (w machine : Machine X) → w.slots ≡ machine.slots → machine_of old key ≡ Some machine
      → ((q : List Value) → machine_of new q ≡ cond (is_at (key_cmp key) q) (Some w) (machine_of old q)) → KeepsSequences old new
  replaced_keeps old new key w machine same found is q k =
      ap (λ (o : Option (Machine X)). sequence_of o k) (is q)
      ∙ slots_one (is_at (key_cmp key) q) w machine (machine_of old q) k same (found_too old key q machine found)

  pub replaced_ready : (old new : List (Row X)) (key : List Value) (w machine : Machine X) → machine_of old key ≡ Some machine → (IsTrue machine.is_ready → IsTrue w.is_ready)
      → ((q : List Value) → machine_of new q ≡ cond (is_at (key_cmp key) q) (Some w) (machine_of old q)) → KeepsReady old new
  replaced_ready old new key w machine found keeps is q h =
      subst IsReady (sym (is q))
      (ready_one (is_at (key_cmp key) q) (Some w) (machine_of old q) (λ same was. keeps (subst IsReady (found_too old key q machine found same) was)) h)

  pub some_there : (o : Option (Machine X)) (machine : Machine X) → o ≡ Some machine → IsSome o
  some_there o machine e = subst IsSome (sym e) refl

  -- the machine is as it was but for the room
  abbrev pub IsSameButRoom : Machine X → Machine X → Type 0
  IsSameButRoom w machine = (w.span ≡ machine.span) × (w.slots ≡ machine.slots) × (w.gone ≡ machine.gone) × (IsTrue machine.is_ready → IsTrue w.is_ready)

  pub room_alone : {U E : Type 0} (r : Result U E) (w machine : Machine X) → IfOk r (λ u. w ≡ record machine { is_ready = true }) → OnErr r (w ≡ machine) → IsSameButRoom w machine
  room_alone (Ok u) w machine ok err = (ap (λ (x : Machine X). x.span) ok, ap (λ (x : Machine X). x.slots) ok, ap (λ (x : Machine X). x.gone) ok, λ h. ap (λ (x : Machine X). x.is_ready) ok)
  room_alone (Err e) w machine ok err = (ap (λ (x : Machine X). x.span) err, ap (λ (x : Machine X). x.slots) err, ap (λ (x : Machine X). x.gone) err, λ h. ap (λ (x : Machine X). x.is_ready) err ∙ h)

  -- a new machine is of its stages and its span
  pub new_is_of : (m : ℕ) (span : Option ℤ) (machine : Machine X) → 1 ≤ m → machine ≡ record { span = span; slots = replicate (m - 1) None; gone = []; is_ready = false } → IsOf m span machine
  new_is_of m span machine low e =
      let none : Option (Sequence X) = None in
      let len = ap (λ (x : Machine X). length x.slots) e ∙ length-replicate (m - 1) none in
      record {
        span_is = ap (λ (x : Machine X). x.span) e;
        stages_are = omega arith;
        read = ap (λ (x : Machine X). x.gone) e;
        differ = subst Differ (sym (ap (λ (x : Machine X). tags_of x.slots) e ∙ no_tags (m - 1))) differ_nil;
        filled = λ k s is. let wrong = sym (empty_slots (m - 1) k machine (ap (λ (x : Machine X). x.slots) e)) ∙ is in cc;
      }

  pub still_of : (m : ℕ) (span : Option ℤ) (w machine : Machine X) → IsSameButRoom w machine → IsOf m span machine → IsOf m span w
  still_of m span w machine same of =
      record {
        span_is = same.0 ∙ of.span_is;
        stages_are = ap (λ (l : List (Option (Sequence X))). suc (length l)) same.1 ∙ of.stages_are;
        read = same.2 ∙ of.read;
        differ = subst (λ (l : List (Option (Sequence X))). Differ (tags_of l)) (sym same.1) of.differ;
        filled = λ k s is. of.filled k s (ap (λ (l : List (Option (Sequence X))). slot_at l k) (sym same.1) ∙ is);
      }

  removed_one : (b : Bool) (o : Option (Machine X)) (k : ℕ) → (b ≡ true → sequence_of o k ≡ None) → sequence_of (cond b None o) k ≡ sequence_of o k
  removed_one true o k none = sym (none refl)
  removed_one false o k none = refl

  -- no machine in place of one without sequences keeps all sequences
  pub removed_keeps : (old new : List (Row X)) (key : List Value) → ((k : ℕ) → sequences_in old key k ≡ None)
      → ((q : List Value) → machine_of new q ≡ cond (is_at (key_cmp key) q) None (machine_of old q)) → KeepsSequences old new
  removed_keeps old new key none is q k =
      ap (λ (o : Option (Machine X)). sequence_of o k) (is q)
      ∙ removed_one (is_at (key_cmp key) q) (machine_of old q) k
      (λ same. ap (λ (p : List Value). sequences_in old p k) (sym (key_same key q (is_equal (key_cmp key q) same))) ∙ none k)

  -- the chains are those of the sequences
  pub slots_are : (o : Option (Machine X)) (k : ℕ) → slots_of o k ≡ option_map (λ (s : Sequence X). s.0) (sequence_of o k)
  slots_are None k = refl
  slots_are (Some machine) k = refl

  pub slots_alike : (old new : List (Row X)) (q : List Value) (k : ℕ) → KeepsSequences old new → slots_in new q k ≡ slots_in old q k
  slots_alike old new q k same =
      slots_are (machine_of new q) k ∙ ap (option_map (λ (s : Sequence X). s.0)) (same q k) ∙ sym (slots_are (machine_of old q) k)
