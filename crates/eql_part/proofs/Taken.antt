-- What is pending after an event, and its matches, by the machines of the keys.
use Rattle.std.proofs.Common.{◌≡◌, ◌<◌, ◌≤◌, ℕ, zero, suc, ℤ, Bool, true, false, List, [], ◌∷◌, Option, Some, None, refl, sym, ap, ◌∙◌, subst, arith}
use Rattle.std.specs.Prelude.{IfSome, find, nat_lt}
use Rattle.std.specs.List.{filter_map}
use Rattle.std.specs.Option.{option_map}
use Rattle.std.specs.Map.{keys_of}
use Rattle.std.specs.BTreeMap.{is_at}
use Rattle.std.specs.List.Sorted.{IsStrictlySortedBy}
use Rattle.std.proofs.lemmas.Bool.Decides.{nat_tests}
use Rattle.std.proofs.lemmas.List.{get_or_past}
use Rattle.std.proofs.lemmas.Map.Views.{IfSome-lookup_from_All}
use Rattle.eql_values.specs.declared.order.OrderKey.{OrderKey}
use Rattle.eql_values.specs.declared.value.Value.{Value}
use Rattle.eql_values.specs.declared.item.Route.{Route}
use Rattle.eql_values.specs.declared.item.Item.{Item}
use Rattle.eql_values.specs.Orders.{key_cmp, key_eq}
use Rattle.eql_values.specs.Matching.{key_event_by, opening_of, matches, after}
use Rattle.eql_laws.specs.Alive.{AfterIsInOrder, AliveAreInOrder, AliveLooksUp, alive_at, alive_holders}
use Rattle.eql_laws.specs.OneEvent.{slots_after_event, AfterHasNoOther, HoldersAreSame, OneItemMatches, OneItemMovesSlots}
use Rattle.eql_laws.specs.Slots.{chain_coming}
use Rattle.eql_auto.specs.Machine.{Machine, Sequence, AllAreBefore}
use Rattle.eql_part.specs.KeyTables.{ComesAfterAll, ComesAfterHolder, IsOf, AreOf, IsLaterAt, KeepsSequences, holders_in, slots_of, machine_of, slots_in}
use Rattle.eql_part.specs.Routed.{match_there}
use Rattle.eql_part.proofs.Turned.{slots_alike}
use Rattle.eql_part.proofs.Held.{opening_is}
use Rattle.eql_part.proofs.Rows.{Row, holders_in_order, looks_up}

module _ {X : Type 0} where
  no_stage_zero : (o : Option (Machine X)) → slots_of o 0 ≡ None
  no_stage_zero None = refl
  no_stage_zero (Some machine) = refl

  no_stage_past : (m k : ℕ) (span : Option ℤ) (o : Option (Machine X)) → m ≤ suc k → IfSome o (IsOf m span) → slots_of o (suc k) ≡ None
  no_stage_past m k span None past h = refl
  no_stage_past m k span (Some machine) past h =
      let are = h.stages_are in
      ap (option_map (λ (s : Sequence X). s.0)) (get_or_past machine.slots k None (omega arith))

  module _ (m : ℕ) (span : Option ℤ) (old new : List (Row X)) (order_old : IsStrictlySortedBy key_cmp (keys_of old)) where
    -- an event after all that is pending comes after what each key has
    pub later_at : (event : OrderKey) → ComesAfterAll event (holders_in old) → (key : List Value) → IsLaterAt event old key
    later_at event later key k =
        subst (λ (o : Option (List OrderKey)). IfSome o (AllAreBefore event)) (looks_up old order_old key k) (opening_is (ComesAfterHolder event) (holders_in old) later key k)

    -- the matches of an event are what comes to the last stages of its routes' keys
    pub matches_are : OneItemMatches → (item : Item) → filter_map (match_there m span (slots_in old) item.order) item.routes ≡ matches m span (holders_in old) (item ∷ [])
    matches_are matches_one item =
        sym (matches_one m span (holders_in old) item
        ∙ (λ i. filter_map (λ (route : Route). option_map (λ c. record { key = route.key; chain = c })
        (chain_coming span (λ j. looks_up old order_old route.key j i) (key_event_by item.order route) m)) item.routes))

    -- machines whose slots moved by the event, each by the route of its key, have what is pending after the event
    module _ (same_holders : HoldersAreSame) (after_in_order : AfterIsInOrder) (after_one : OneItemMovesSlots) (after_has_no_other : AfterHasNoOther)
        (order_new : IsStrictlySortedBy key_cmp (keys_of new)) (of : AreOf m span new) (item : Item)
        (moved : (key : List Value) (k : ℕ) → suc k < m
        → slots_in new key (suc k) ≡ slots_after_event span item.order (find (λ (route : Route). key_eq key route.key) item.routes) (slots_in old key) (suc k)) where
      at_stage : (key : List Value) (k : ℕ) (b : Bool) → nat_lt (suc k) m ≡ b → slots_in new key (suc k) ≡ opening_of (after m span (holders_in old) (item ∷ [])) key (suc k)
      at_stage key k true e =
          let lt : suc k < m = grind (arith, nat_tests) in
          moved key k lt
          ∙ sym (λ i. slots_after_event span item.order (find (λ (route : Route). key_eq key route.key) item.routes) (λ j. looks_up old order_old key j i) (suc k))
          ∙ sym (after_one m span (holders_in old) item key k lt)
      at_stage key k false e =
          let past : m ≤ suc k = grind (arith, nat_tests) in
          no_stage_past m k span (machine_of new key) past (IfSome-lookup_from_All (IsOf m span) (is_at (key_cmp key)) new of)
          ∙ sym ((after_has_no_other m span (holders_in old) (item ∷ []) key).1 (suc k) (omega arith))

      at_each : (key : List Value) (stage : ℕ) → slots_in new key stage ≡ opening_of (after m span (holders_in old) (item ∷ [])) key stage
      at_each key zero = no_stage_zero (machine_of new key) ∙ sym (after_has_no_other m span (holders_in old) (item ∷ []) key).0
      at_each key (suc k) = at_stage key k (nat_lt (suc k) m) refl

      pub after_is : holders_in new ≡ after m span (holders_in old) (item ∷ [])
      after_is =
          same_holders (holders_in new) (after m span (holders_in old) (item ∷ [])) (holders_in_order new order_new) (after_in_order m span (holders_in old) (item ∷ []))
          (λ key stage. looks_up new order_new key stage ∙ at_each key stage)

  -- machines with the same sequences have the same holders
  pub alike : HoldersAreSame → (old new : List (Row X)) → IsStrictlySortedBy key_cmp (keys_of old) → IsStrictlySortedBy key_cmp (keys_of new) → KeepsSequences old new → holders_in new ≡ holders_in old
  alike same_holders old new order_old order_new same =
      same_holders (holders_in new) (holders_in old) (holders_in_order new order_new) (holders_in_order old order_old)
      (λ key stage. looks_up new order_new key stage ∙ slots_alike old new key stage same ∙ sym (looks_up old order_old key stage))

  -- machines whose slots are what was alive have the holders that were alive
  pub swept_is : HoldersAreSame → AliveAreInOrder → AliveLooksUp → (span : Option ℤ) (now : ℤ) (old new : List (Row X)) → IsStrictlySortedBy key_cmp (keys_of old) → IsStrictlySortedBy key_cmp (keys_of new)
      → ((key : List Value) (k : ℕ) → slots_in new key k ≡ alive_at span now (slots_in old key k)) → holders_in new ≡ alive_holders span now (holders_in old)
  swept_is same_holders alive_in_order alive_looks_up span now old new order_old order_new slots =
      let in_order = holders_in_order old order_old in
      same_holders (holders_in new) (alive_holders span now (holders_in old)) (holders_in_order new order_new) (alive_in_order span now (holders_in old) in_order)
      (λ key stage. looks_up new order_new key stage ∙ slots key stage
      ∙ sym (alive_looks_up span now (holders_in old) in_order key stage ∙ ap (alive_at span now) (looks_up old order_old key stage)))
