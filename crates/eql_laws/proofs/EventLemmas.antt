-- Look-ups in what is pending, and what one item does.
use Rattle.std.proofs.Common.{◌≡◌, ◌<◌, ℕ, zero, suc, ◌-◌, ℤ, Bool, true, false, cond, List, [], ◌∷◌, map, Option, Some, None, refl, sym, ap, ◌∙◌, subst, arith, T}
use Rattle.std.specs.Prelude.{All, IfSome, ◌&&◌, ◌||◌, nat_lt, nat_le, find, ◌≤◌}
use Rattle.std.specs.List.{filter_map, cons_option}
use Rattle.std.specs.Option.{option_map}
use Rattle.std.specs.FinMap.Entries.{same_entries}
use Rattle.std.proofs.lemmas.Bool.Decides.{nat_tests}
use Rattle.std.proofs.lemmas.List.{append-nil}
use Rattle.eql_values.specs.declared.order.OrderKey.{OrderKey}
use Rattle.eql_values.specs.declared.value.Value.{Value}
use Rattle.eql_values.specs.declared.item.Route.{Route}
use Rattle.eql_values.specs.declared.found.Holder.{Holder}
use Rattle.eql_values.specs.Chains.{fits_after, chain, holder}
use Rattle.eql_values.specs.Orders.{key_eq}
use Rattle.eql_values.specs.Ordered.{found_or}
use Rattle.eql_values.specs.Matching.{slot_cmp, key_event_by, match_by, opening_of, held_after, after}
use Rattle.eql_laws.specs.Merging.{by_slot, holder_of}
use Rattle.eql_laws.specs.OneEvent.{AfterLooksUp, AfterHasNoOther, HoldersAreSame, slots_after_event, OneItemMovesSlots, OneItemMatches, AfterNoneIsSame}
use Rattle.eql_laws.specs.Shapes.{HasStageBefore}
use Rattle.eql_laws.specs.Slots.{Slots, chain_coming}
use Rattle.eql_laws.proofs.Lists.{map_back}
use Rattle.eql_laws.proofs.Carried.{opening_is}
use Rattle.eql_laws.proofs.Halves.{arrived_alike}
use Rattle.eql_laws.proofs.Held.{find-after, slot_cmp_total, slot_same}
use Rattle.eql_laws.proofs.LeftOut.{after_in_order}
use Rattle.eql_laws.proofs.Splitting.{opening_after}
use Rattle.eql_laws.proofs.Stepping.{chain_step, holder_step, holder_start}

pub after_looks_up : AfterLooksUp
after_looks_up m span holders items key k lt = opening_after m span holders items key k lt

no_stage_above : (m k : ℕ) → m < suc k → (nat_lt 0 k && nat_le k (m - 1)) ≡ false
no_stage_above m k lt = grind (arith, nat_tests)

pub after_has_no_other : AfterHasNoOther
after_has_no_other m span holders items key = (
  find-after m span holders items (key, 0),
  λ k lt. find-after m span holders items (key, k)
      ∙ ap (λ (b : Bool). cond b (held_after span (opening_of holders) items key k) None) (no_stage_above m k lt),
)

pub same_holders : HoldersAreSame
same_holders a b order_a order_b same =
    sym (map_back holder_of by_slot (λ h. refl) a)
    ∙ ap (map holder_of) (same_entries slot_cmp slot_cmp_total slot_same (map by_slot a) (map by_slot b) (subst T (sym order_a) tt) (subst T (sym order_b) tt) (λ q. same q.0 q.1))
    ∙ map_back holder_of by_slot (λ h. refl) b

module _ (span : Option ℤ) (opening : Slots) where
  -- of one item alone
  one_held : (order : OrderKey) (o : Option Route) (k : ℕ)
      → holder span opening (suc k) (cons_option (option_map (key_event_by order) o) []) ≡ slots_after_event span order o opening (suc k)
  one_held order None k = holder_start span opening k
  one_held order (Some route) k =
      holder_step span opening (suc k) (key_event_by order route) []
      ∙ (λ i. found_or (arrived_alike span (λ j. holder span opening j []) opening (key_event_by order route) (suc k) (suc k) (omega arith) (λ j lt. holder_start span opening j) i)
      (cond (fits_after (suc k) (key_event_by order route) || route.until) None (holder_start span opening k i)))

  one_chain : (order : OrderKey) (route : Route) (m : ℕ) → chain span opening m (key_event_by order route ∷ []) ≡ chain_coming span opening (key_event_by order route) m
  one_chain order route m =
      chain_step span opening m (key_event_by order route) []
      ∙ arrived_alike span (λ j. holder span opening j []) opening (key_event_by order route) m m (omega arith) (λ j lt. holder_start span opening j)

pub after_one : OneItemMovesSlots
after_one m span holders item key k lt =
    opening_after m span holders (item ∷ []) key k lt
    ∙ one_held span (opening_of holders key) item.order (find (λ (route : Route). key_eq key route.key) item.routes) k

pub matches_one : OneItemMatches
matches_one m span holders item =
    append-nil (filter_map (match_by m span (opening_of holders) [] item.order) item.routes)
    ∙ (λ i. filter_map (λ (route : Route). option_map (λ c. record { key = route.key; chain = c }) (one_chain span (opening_of holders route.key) item.order route m i)) item.routes)

is_none : {X : Type 0} (o : Option X) → IfSome o (λ x. ⊥) → o ≡ None
is_none None h = refl
is_none (Some x) h = absurd h

-- which stages there are
no_stage : (m : ℕ) (holders : List Holder) → All (HasStageBefore m) holders → (key : List Value) (stage : ℕ) → ((1 ≤ stage) × (stage < m) → ⊥) → opening_of holders key stage ≡ None
no_stage m holders h key stage never = is_none (opening_of holders key stage) (gives (opening_of holders key stage) (opening_is (HasStageBefore m) holders h key stage))
  where
    gives : (o : Option (List OrderKey)) → IfSome o (λ c. (1 ≤ stage) × (stage < m)) → IfSome o (λ c. ⊥)
    gives None g = tt
    gives (Some c) g = never g

same_stage : (m : ℕ) (span : Option ℤ) (holders : List Holder) → All (HasStageBefore m) holders → (key : List Value) (k : ℕ) (b : Bool) → nat_lt (suc k) m ≡ b
    → opening_of (after m span holders []) key (suc k) ≡ opening_of holders key (suc k)
same_stage m span holders h key k true e = opening_after m span holders [] key k (grind (arith, nat_tests)) ∙ holder_start span (opening_of holders key) k
same_stage m span holders h key k false e =
    let above : m < suc (suc k) = grind (arith, nat_tests) in
    (after_has_no_other m span holders [] key).1 (suc k) above
    ∙ sym (no_stage m holders h key (suc k) (λ (g : (1 ≤ suc k) × (suc k < m)). let lt = g.1 in omega (arith, lt, above)))

same_stages : (m : ℕ) (span : Option ℤ) (holders : List Holder) → All (HasStageBefore m) holders → (key : List Value) (stage : ℕ)
    → opening_of (after m span holders []) key stage ≡ opening_of holders key stage
same_stages m span holders h key zero =
    (after_has_no_other m span holders [] key).0 ∙ sym (no_stage m holders h key zero (λ (g : (1 ≤ 0) × (0 < m)). let le = g.0 in omega (arith, le)))
same_stages m span holders h key (suc k) = same_stage m span holders h key k (nat_lt (suc k) m) refl

pub after_none : AfterNoneIsSame
after_none m span holders order h =
    same_holders (after m span holders []) holders (after_in_order m span holders []) order (same_stages m span holders h)
