-- What stays where a key gets a machine without sequences, or loses it.
use Rattle.std.proofs.Common.{◌≡◌, ℕ, ℤ, Bool, true, false, cond, List, [], Option, Some, None, refl, sym, ap, subst}
use Rattle.std.specs.Prelude.{IfSome, IsTrue}
use Rattle.std.specs.Option.{IsSomeAnd}
use Rattle.std.specs.BTreeMap.{is_at}
use Rattle.std.specs.List.Sorted.{IsStrictlySortedBy}
use Rattle.std.specs.Map.{keys_of}
use Rattle.std.specs.Result.{IfOk, OnErr, OnOk}
use Rattle.std.specs.declared.result.Result.{Result}
use Rattle.std.specs.declared.result.Result.TheVariants.{Ok, Err}
use Rattle.std.proofs.lemmas.Map.Views.{IfSome-lookup_from_All}
use Rattle.eql_values.specs.declared.value.Value.{Value}
use Rattle.eql_values.specs.Orders.{key_cmp}
use Rattle.eql_auto.specs.Machine.{Machine, tags_of}
use Rattle.eql_span_list.specs.declared.node.Ticket.{Ticket}
use Rattle.eql_part.specs.KeyTables.{AreOf, IsBusyAt, IsEmptyAt, IsOf, IsReadyIn, KeepsOtherKeys, KeepsReady, KeepsSequences, machine_of, sequence_of, sequences_in}
use Rattle.eql_part.specs.Rooms.{AddsEmpty, Changes}
use Rattle.eql_part.proofs.Busy.{keeps_busy}
use Rattle.eql_part.proofs.Looked.{all_found, changed_others, changed_own}
use Rattle.eql_part.proofs.Rows.{Row}
use Rattle.eql_part.proofs.Tagging.{no_sequence}
use Rattle.eql_part.proofs.Turned.{added_keeps, added_ready, removed_keeps}

-- what a change of one key's machine keeps of all
pub record IsKeeping (m : ℕ) (span : Option ℤ) (key : List Value) (old new : List (Row Ticket)) : Type 0 where
  pub of : AreOf m span new
  pub others : KeepsOtherKeys key old new
  pub sequences : KeepsSequences old new
  pub ready : KeepsReady old new

one_of : (P : Machine Ticket → Type 0) (b : Bool) (o p : Option (Machine Ticket)) → IfSome o P → IfSome p P → IfSome (cond b o p) P
one_of P true o p h k = h
one_of P false o p h k = k

pub of_change : (m : ℕ) (span : Option ℤ) (key : List Value) (o : Option (Machine Ticket)) (old new : List (Row Ticket)) → AreOf m span old → IfSome o (IsOf m span) → IsStrictlySortedBy key_cmp (keys_of new) → Changes key o old new
    → AreOf m span new
of_change m span key o old new of now sorted change =
    all_found (IsOf m span) new sorted
    (λ q. subst (λ (p : Option (Machine Ticket)). IfSome p (IsOf m span)) (sym (change q))
    (one_of (IsOf m span) (is_at (key_cmp key) q) o (machine_of old q) now (IfSome-lookup_from_All (IsOf m span) (is_at (key_cmp q)) old of)))

pub adding_keeps : (m : ℕ) (span : Option ℤ) (key : List Value) (old new : List (Row Ticket)) → AreOf m span old → machine_of old key ≡ None → IsStrictlySortedBy key_cmp (keys_of new) → AddsEmpty m span key old new
    → IsKeeping m span key old new
adding_keeps m span key old new of none sorted adds =
    record {
      of = of_change m span key (Some adds.0) old new of adds.1 sorted adds.3;
      others = changed_others key (Some adds.0) old new adds.3;
      sequences = added_keeps old new key adds.0 adds.2 none adds.3;
      ready = added_ready old new key adds.0 none adds.3;
    }

pub same_keeps : (m : ℕ) (span : Option ℤ) (key : List Value) (old new : List (Row Ticket)) → AreOf m span old → new ≡ old → IsKeeping m span key old new
same_keeps m span key old new of same =
    subst (IsKeeping m span key old) (sym same) (record { of = of; others = λ q ne. refl; sequences = λ q k. refl; ready = λ q h. h })

-- whether it succeeds or not
pub either : {A E : Type 0} (r : Result A E) (X Y Z : Type 0) → OnOk r X → OnErr r Y → (X → Z) → (Y → Z) → Z
either (Ok a) X Y Z x y f g = f x
either (Err e) X Y Z x y f g = g y

pub empty_sequences : (es : List (Row Ticket)) (key : List Value) → IsEmptyAt es key → (k : ℕ) → sequences_in es key k ≡ None
empty_sequences es key empty k = by (machine_of es key) empty
  where
    by : (o : Option (Machine Ticket)) → IfSome o (λ machine. tags_of machine.slots ≡ []) → sequence_of o k ≡ None
    by None h = refl
    by (Some machine) h = no_sequence machine.slots k h

pub removing_keeps : (old new : List (Row Ticket)) (key : List Value) → IsEmptyAt old key → Changes key None old new → KeepsSequences old new
removing_keeps old new key empty change = removed_keeps old new key (empty_sequences old key empty) change

pub removed_busy : (old new : List (Row Ticket)) (key : List Value) → Changes key None old new → IsBusyAt new key
removed_busy old new key change = keeps_busy None (machine_of new key) (changed_own key None old new change) tt

-- a machine that took the room for one more chain is ready
pub ready_now : {U E : Type 0} (r : Result U E) (w machine : Machine Ticket) (key : List Value) (new : List (Row Ticket)) → machine_of new key ≡ Some w → IfOk r (λ u. w ≡ record machine { is_ready = true }) → OnOk r (IsReadyIn new key)
ready_now (Ok u) w machine key new own ok =
    subst (λ (o : Option (Machine Ticket)). IsSomeAnd o (λ x. IsTrue x.is_ready)) (sym own) (ap (λ (x : Machine Ticket). x.is_ready) ok)
ready_now (Err e) w machine key new own ok = tt

pub none_ready : (es : List (Row Ticket)) (key : List Value) → machine_of es key ≡ None → IsReadyIn es key → ⊥
none_ready es key none h = subst (λ (o : Option (Machine Ticket)). IsSomeAnd o (λ machine. IsTrue machine.is_ready)) none h
