-- A key with nothing pending has no machine.
use Rattle.std.proofs.Common.{◌≡◌, ◌<◌, ◌≤◌, ◌+◌, ℕ, Bool, true, false, cond, List, [], ◌∷◌, length, drop, get_or, Option, Some, None, refl, sym, ap, ◌∙◌, subst, arith}
use Rattle.std.specs.Prelude.{All, IfSome}
use Rattle.std.specs.Map.{keys_of}
use Rattle.std.specs.List.Sorted.{IsStrictlySortedBy}
use Rattle.std.specs.Ordering.{is_eq}
use Rattle.std.proofs.lemmas.List.{length-append, length-map}
use Rattle.std.proofs.lemmas.List.Elements.{All-cons, All-head, All-drop}
use Rattle.std.proofs.lemmas.Map.Keys.{sorted_head, sorted_tail}
use Rattle.eql_values.specs.declared.value.Value.{Value}
use Rattle.eql_values.specs.declared.item.Route.{Route}
use Rattle.eql_values.specs.declared.found.Holder.{Holder}
use Rattle.eql_values.specs.declared.order.OrderKey.{OrderKey}
use Rattle.eql_values.specs.Orders.{key_cmp, key_eq}
use Rattle.eql_values.specs.Totals.{key_cmp_total}
use Rattle.eql_values.proofs.Same.{key_same}
use Rattle.eql_laws.proofs.Facts.{is_equal}
use Rattle.eql_auto.specs.Machine.{Machine, stage_chains, tags_of}
use Rattle.eql_part.specs.KeyTables.{AreBusy, AreBusyBut, HaveOtherKeys, IsBusyAt, KeepsOtherKeys, holders_in, holders_of, machine_of}
use Rattle.eql_part.proofs.Rows.{Row, none_of, own_reverse}
use Rattle.eql_part.proofs.Expiring.{chains_count}
use Rattle.eql_part.proofs.Playing.{one_left}

pub own_key : (key : List Value) → key_eq key key ≡ true
own_key key = ap is_eq (own_reverse (key_cmp key key) (key_cmp_total.antisymm key key))

module _ {X : Type 0} where
  -- a machine has a pending sequence
  abbrev pub Busy : Option (Machine X) → Type 0
  Busy o = IfSome o (λ machine. 1 ≤ length (tags_of machine.slots))

  pub keeps_busy : (o p : Option (Machine X)) → p ≡ o → Busy o → Busy p
  keeps_busy o p is h = subst Busy (sym is) h

  -- where one key's machine has one, and other keys' machines are as they were, with one each
  pub busy_after : (old new : List (Row X)) (key : List Value) → KeepsOtherKeys key old new → IsBusyAt new key
      → ((q : List Value) → key_eq key q ≡ false → IsBusyAt old q) → AreBusy new
  busy_after old new key others here was q = one (key_eq key q) refl
    where
      one : (b : Bool) → key_eq key q ≡ b → IsBusyAt new q
      one true e = subst (IsBusyAt new) (key_same key q (is_equal (key_cmp key q) e)) here
      one false e = keeps_busy (machine_of old q) (machine_of new q) (others q e) (was q e)

  -- after the first of the routes only the rest may have none
  pub busy_on : (route : Route) (rest : List Route) (old new : List (Row X)) → AreBusyBut (route ∷ rest) old → KeepsOtherKeys route.key old new → IsBusyAt new route.key → AreBusyBut rest new
  busy_on route rest old new before others here key apart = one (key_eq route.key key) refl
    where
      one : (b : Bool) → key_eq route.key key ≡ b → IsBusyAt new key
      one true e = subst (IsBusyAt new) (key_same route.key key (is_equal (key_cmp route.key key) e)) here
      one false e =
          keeps_busy (machine_of old key) (machine_of new key) (others key e)
          (before key (All-cons (λ (r : Route). key_eq r.key key ≡ false) route rest e apart))

  rest_one : (b : Bool) (machine : Machine X) (o : Option (Machine X)) → (b ≡ true → o ≡ None) → Busy (cond b (Some machine) o) → Busy o
  rest_one true machine o none h = subst Busy (sym (none refl)) tt
  rest_one false machine o none h = h

  -- there are no more machines than pending sequences
  pub machines_few : (es : List (Row X)) → IsStrictlySortedBy key_cmp (keys_of es) → AreBusy es → length es ≤ length (holders_in es)
  machines_few [] h busy = omega arith
  machines_few (e ∷ es) h busy =
      let here : 1 ≤ length (tags_of e.1.slots) = subst (λ (b : Bool). Busy (cond b (Some e.1) (machine_of es e.0))) (own_key e.0) (busy e.0) in
      let rest = machines_few es (sorted_tail key_cmp e.0 (keys_of es) h)
      (λ q. rest_one (key_eq q e.0) e.1 (machine_of es q) (λ same. none_of e.0 q es (key_same q e.0 (is_equal (key_cmp q e.0) same)) (sorted_head key_cmp e.0 (keys_of es) h)) (busy q)) in
      let many = length-append (holders_of e) (holders_in es) in
      let each : length (holders_of e) ≡ length (tags_of e.1.slots) =
      length-map {B = Holder} (stage_chains e.1.slots) (λ (s : ℕ × List OrderKey). record { key = e.0; stage = s.0; chain = s.1 }) ∙ chains_count e.1.slots in
      omega arith

-- the route at hand hasn't a key that none of the routes has
pub apart_at : (key : List Value) (read routes : List Route) (i : ℕ) (route : Route) → read ≡ routes → i < length read → route ≡ get_or read i route → HaveOtherKeys routes key → key_eq route.key key ≡ false
apart_at key read routes i route same lt is apart =
    let other = λ (r : Route). key_eq r.key key ≡ false in
    All-head other route (drop (i + 1) routes) (subst (All other) (one_left read routes i route same lt is) (All-drop other i routes apart))
