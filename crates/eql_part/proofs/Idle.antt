-- An event that says nothing to any key changes nothing.
use Rattle.std.proofs.Common.{◌≡◌, ◌≤◌, ℕ, zero, suc, ℤ, Bool, true, false, cond, List, [], ◌∷◌, length, Option, Some, None, refl, sym, ap, ◌∙◌, subst, arith}
use Rattle.std.specs.Prelude.{All, find, not, ◌&&◌, ◌||◌}
use Rattle.std.specs.List.{filter_map, cons_option}
use Rattle.std.specs.Option.{option_map}
use Rattle.std.proofs.lemmas.List.Elements.{All-head, All-tail}
use Rattle.eql_values.specs.declared.order.OrderKey.{OrderKey}
use Rattle.eql_values.specs.declared.value.Value.{Value}
use Rattle.eql_values.specs.declared.item.KeyEvent.{KeyEvent}
use Rattle.eql_values.specs.declared.item.Route.{Route}
use Rattle.eql_values.specs.declared.found.Match.{Match}
use Rattle.eql_values.specs.Chains.{fits_after}
use Rattle.eql_values.specs.Matching.{key_event_by}
use Rattle.eql_values.specs.Ordered.{found_or}
use Rattle.eql_values.specs.Orders.{key_cmp, key_eq}
use Rattle.eql_values.proofs.InOrder.{both_none}
use Rattle.eql_values.proofs.Same.{key_same}
use Rattle.eql_laws.proofs.Facts.{is_equal}
use Rattle.eql_laws.specs.OneEvent.{slots_after_event}
use Rattle.eql_laws.specs.Slots.{Slots, chain_coming, slots_after}
use Rattle.eql_auto.specs.Machine.{Machine}
use Rattle.eql_part.specs.KeyTables.{IsIdle, machine_of, slots_in, slots_of}
use Rattle.eql_part.specs.Routed.{match_there}
use Rattle.eql_part.proofs.Rows.{Row}

-- no sequences
abbrev no_slots : Slots
no_slots k = None

module _ (span : Option ℤ) where
  -- nothing comes to a key without sequences by an event that begins none
  none_comes : (key_event : KeyEvent) → fits_after 0 key_event ≡ false → (k : ℕ) → chain_coming span no_slots key_event k ≡ None
  none_comes key_event none zero = refl
  none_comes key_event none (suc zero) = ap (λ (b : Bool). cond b (Some (key_event.order ∷ [])) None) none
  none_comes key_event none (suc (suc k)) = both_none (fits_after (suc k) key_event && not key_event.until)

  none_after : (key_event : KeyEvent) → fits_after 0 key_event ≡ false → (k : ℕ) → slots_after span no_slots key_event k ≡ None
  none_after key_event none k =
      ap (λ (o : Option (List OrderKey)). found_or o (cond (fits_after k key_event || key_event.until) None None)) (none_comes key_event none k)
      ∙ both_none (fits_after k key_event || key_event.until)

module _ {X : Type 0} (span : Option ℤ) where
  module _ (es : List (Row X)) (order : OrderKey) where
    -- no match comes
    pub no_match : (m : ℕ) (routes : List Route) → All (IsIdle es) routes → filter_map (match_there m span (slots_in es) order) routes ≡ []
    no_match m [] idle = refl
    no_match m (route ∷ routes) idle =
        let here = All-head (IsIdle es) route routes idle in
        let to_match = λ (o : Option (List OrderKey)). option_map (λ (c : List OrderKey). record { key = route.key; chain = c }) o in
        let none : match_there m span (slots_in es) order route ≡ None =
        ap (λ (o : Option (Machine X)). to_match (chain_coming span (slots_of o) (key_event_by order route) m)) here.1
        ∙ ap to_match (none_comes span (key_event_by order route) here.0 m) in
        ap (λ (o : Option Match). cons_option o (filter_map (match_there m span (slots_in es) order) routes)) none
        ∙ no_match m routes (All-tail (IsIdle es) route routes idle)

    -- the slots stay
    pub slots_stay : (routes : List Route) → All (IsIdle es) routes → (key : List Value) (k : ℕ)
        → slots_in es key k ≡ slots_after_event span order (find (λ (route : Route). key_eq key route.key) routes) (slots_in es key) k
    slots_stay [] idle key k = refl
    slots_stay (route ∷ routes) idle key k = one (key_eq key route.key) refl (slots_stay routes (All-tail (IsIdle es) route routes idle) key k)
      where
        one : (b : Bool) → key_eq key route.key ≡ b
            → slots_in es key k ≡ slots_after_event span order (find (λ (r : Route). key_eq key r.key) routes) (slots_in es key) k
            → slots_in es key k ≡ slots_after_event span order (cond b (Some route) (find (λ (r : Route). key_eq key r.key) routes)) (slots_in es key) k
        one true e rest =
            let here = All-head (IsIdle es) route routes idle in
            let none : machine_of es key ≡ None = ap (machine_of es) (key_same key route.key (is_equal (key_cmp key route.key) e)) ∙ here.1 in
            subst (λ (o : Option (Machine X)). slots_of o k ≡ slots_after span (slots_of o) (key_event_by order route) k) (sym none) (sym (none_after span (key_event_by order route) here.0 k))
        one false e rest = rest

module _ {A B : Type 0} (f : A → Option B) where
  one_more : (o : Option B) (found : List B) (n : ℕ) → length found ≤ n → length (cons_option o found) ≤ suc n
  one_more None found n le = omega arith
  one_more (Some b) found n le = omega arith

  -- there are no more of what is found than of what is looked at
  pub found_few : (xs : List A) → length (filter_map f xs) ≤ length xs
  found_few [] = omega arith
  found_few (x ∷ xs) = one_more (f x) (filter_map f xs) (length xs) (found_few xs)
