-- What the keys of an event's routes come to, route by route.
use Rattle.std.proofs.Common.{◌≡◌, ◌<◌, ◌≤◌, ◌+◌, ℕ, zero, suc, ℤ, Bool, true, false, cond, List, [], ◌∷◌, ◌++◌, map, length, drop, get_or, Option, Some, None, refl, sym, ap, ◌∙◌, subst, arith, T}
use Rattle.std.specs.Prelude.{All, find, IfSome, IsSome, not, ◌&&◌}
use Rattle.std.specs.List.{cons_option, AllByRecursion}
use Rattle.std.specs.Option.{option_to_list}
use Rattle.std.specs.declared.cmp.Ordering.TheVariants.{Less}
use Rattle.std.proofs.lemmas.List.{append_assoc, drop_more}
use Rattle.std.proofs.lemmas.List.Elements.{All-nil, All-cons, All-head, All-tail}
use Rattle.std.specs.FinMap.Entries.{below_all, is_sorted}
use Rattle.std.specs.Ordering.{is_lt}
use Rattle.eql_values.specs.declared.order.OrderKey.{OrderKey}
use Rattle.eql_values.specs.declared.value.Value.{Value}
use Rattle.eql_values.specs.declared.item.Route.{Route}
use Rattle.eql_values.specs.declared.item.KeyEvent.{KeyEvent}
use Rattle.eql_values.specs.Chains.{fits_after}
use Rattle.eql_values.specs.Masks.{has_stage}
use Rattle.eql_values.specs.Matching.{key_event_by}
use Rattle.eql_values.specs.Orders.{key_cmp, key_eq}
use Rattle.eql_values.specs.Routes.{RoutesAreInOrder}
use Rattle.eql_laws.specs.OneEvent.{slots_after_event}
use Rattle.eql_laws.specs.Slots.{Slots, chain_coming, slots_after, chain_moved_on}
use Rattle.eql_laws.proofs.Facts.{both_true, is_less, less_is, less_not_equal}
use Rattle.eql_auto.specs.Machine.{Machine}
use Rattle.eql_span_list.specs.declared.node.Ticket.{Ticket}
use Rattle.eql_part.specs.KeyTables.{KeepsOtherKeys, machine_of, slots_in, slots_of}
use Rattle.eql_part.specs.declared.prepared.Prepared.{Prepared}
use Rattle.eql_part.specs.Links.{IsLinked, Listed, Sequences, begun_by}
use Rattle.eql_part.specs.Routed.{ArePrepared, IsPrepared, all_begun}
use Rattle.eql_part.proofs.Rows.{Row}
use Rattle.eql_part.proofs.Linking.{own_key, same_key}

-- routes by their keys
abbrev by_key : List Route → List (List Value × Route)
by_key = map (λ (r : Route). (r.key, r))

-- the keys of routes that all come after this one
keys_after : (key : List Value) (routes : List Route) → below_all key_cmp key (by_key routes) ≡ true → AllByRecursion (λ (y : List Value). key_cmp key y ≡ Less) (map (λ (r : Route). r.key) routes)
keys_after key [] e = tt
keys_after key (route ∷ routes) e =
    let both = both_true (is_lt (key_cmp key route.key)) (below_all key_cmp key (by_key routes)) e in
    (is_less (key_cmp key route.key) (subst T (sym both.0) tt), keys_after key routes both.1)

-- the routes behind the first of routes in order have later keys, and stand in order
pub later_keys : (route : Route) (routes : List Route) → RoutesAreInOrder (route ∷ routes) → AllByRecursion (λ (y : List Value). key_cmp route.key y ≡ Less) (map (λ (r : Route). r.key) routes)
later_keys route routes e = keys_after route.key routes (both_true (below_all key_cmp route.key (by_key routes)) (is_sorted key_cmp (by_key routes)) e).0

pub rest_in_order : (route : Route) (routes : List Route) → RoutesAreInOrder (route ∷ routes) → RoutesAreInOrder routes
rest_in_order route routes e = (both_true (below_all key_cmp route.key (by_key routes)) (is_sorted key_cmp (by_key routes)) e).1

-- another key comes after
other_after : (key q : List Value) → key_cmp key q ≡ Less → key_eq key q ≡ false
other_after key q less = less_not_equal (key_cmp key q) (less_is (key_cmp key q) less)

turn_round : (key q : List Value) → key_eq key q ≡ false → key_eq q key ≡ false
turn_round key q e = by (key_eq q key) refl
  where
    by : (b : Bool) → key_eq q key ≡ b → key_eq q key ≡ false
    by true f = let same = own_key key q (same_key q key f) in cc
    by false f = f

none_found : (key q : List Value) (routes : List Route) → q ≡ key → AllByRecursion (λ (y : List Value). key_cmp key y ≡ Less) (map (λ (route : Route). route.key) routes)
    → find (λ (route : Route). key_eq q route.key) routes ≡ None
none_found key q [] is h = refl
none_found key q (route ∷ routes) is h =
    ap (λ (b : Bool). cond b (Some route) (find (λ (r : Route). key_eq q r.key) routes)) (ap (λ (p : List Value). key_eq p route.key) is ∙ other_after key route.key h.0)
    ∙ none_found key q routes is h.1

-- the machines of later keys stay
pub later_same : (key : List Value) (routes : List Route) (start cur new : List (Row Ticket)) → AllByRecursion (λ (y : List Value). key_cmp key y ≡ Less) (map (λ (route : Route). route.key) routes)
    → KeepsOtherKeys key cur new → All (λ (route : Route). machine_of cur route.key ≡ machine_of start route.key) routes → All (λ (route : Route). machine_of new route.key ≡ machine_of start route.key) routes
later_same key [] start cur new h others same = All-nil (λ (route : Route). machine_of new route.key ≡ machine_of start route.key)
later_same key (route ∷ routes) start cur new h others same =
    let was = λ (route : Route). machine_of cur route.key ≡ machine_of start route.key in
    All-cons (λ (route : Route). machine_of new route.key ≡ machine_of start route.key) route routes
    (others route.key (other_after key route.key h.0) ∙ All-head was route routes same)
    (later_same key routes start cur new h.1 others (All-tail was route routes same))

-- what is left to do to a key, one route on
pub one_on : (m : ℕ) (span : Option ℤ) (order : OrderKey) (route : Route) (routes : List Route) (cur new : List (Row Ticket)) → RoutesAreInOrder (route ∷ routes) → KeepsOtherKeys route.key cur new
    → ((k : ℕ) → 1 ≤ k → k < m → slots_in new route.key k ≡ slots_after span (slots_in cur route.key) (key_event_by order route) k)
    → (key : List Value) (k : ℕ) → suc k < m
    → slots_after_event span order (find (λ (r : Route). key_eq key r.key) routes) (slots_in new key) (suc k) ≡ slots_after_event span order (find (λ (r : Route). key_eq key r.key) (route ∷ routes)) (slots_in cur key) (suc k)
one_on m span order route routes cur new in_order others moved key k lt = by (key_eq key route.key) refl
  where
    rest : Option Route
    rest = find (λ (r : Route). key_eq key r.key) routes

    by : (b : Bool) → key_eq key route.key ≡ b → slots_after_event span order rest (slots_in new key) (suc k) ≡ slots_after_event span order (cond b (Some route) rest) (slots_in cur key) (suc k)
    by true e =
        let same = same_key key route.key e in
        ap (λ (o : Option Route). slots_after_event span order o (slots_in new key) (suc k)) (none_found route.key key routes same (later_keys route routes in_order))
        ∙ ap (λ (q : List Value). slots_in new q (suc k)) same
        ∙ moved (suc k) (omega arith) lt
        ∙ ap (λ (q : List Value). slots_after span (slots_in cur q) (key_event_by order route) (suc k)) (sym same)
    by false e = ap (λ (o : Option (Machine Ticket)). slots_after_event span order rest (slots_of o) (suc k)) (others key (turn_round key route.key e))

-- a chain comes to the last stage only where the mask has it
pub keyed_if_completed : (m : ℕ) (span : Option ℤ) (slots : Slots) (key_event : KeyEvent) (q : List Value) (key : Option (List Value)) (completed : Option (List OrderKey))
    → key ≡ cond (has_stage key_event.mask m) (Some q) None → completed ≡ chain_coming span slots key_event m → IfSome completed (λ _. IsSome key)
keyed_if_completed zero span slots key_event q key completed has is = subst (λ (o : Option (List OrderKey)). IfSome o (λ _. IsSome key)) (sym is) tt
keyed_if_completed (suc zero) span slots key_event q key completed has is =
    subst (λ (o : Option (List OrderKey)). IfSome o (λ _. IsSome key)) (sym is) (by (fits_after 0 key_event) has)
  where
    by : (b : Bool) → key ≡ cond b (Some q) None → IfSome (cond b (Some (key_event.order ∷ [])) None) (λ _. IsSome key)
    by true e = subst IsSome (sym e) refl
    by false e = tt
keyed_if_completed (suc (suc k)) span slots key_event q key completed has is =
    subst (λ (o : Option (List OrderKey)). IfSome o (λ _. IsSome key)) (sym is) (by (fits_after (suc k) key_event) (not key_event.until) has)
  where
    some_key : (o : Option (List OrderKey)) → IsSome key → IfSome o (λ _. IsSome key)
    some_key None h = tt
    some_key (Some c) h = h

    by : (b c : Bool) → key ≡ cond b (Some q) None → IfSome (cond (b && c) (chain_moved_on span (slots (suc k)) key_event) None) (λ _. IsSome key)
    by true true e = some_key (chain_moved_on span (slots (suc k)) key_event) (subst IsSome (sym e) refl)
    by true false e = tt
    by false c e = tt

pub if_keyed : (b : Bool) (q : List Value) (key : Option (List Value)) → key ≡ cond b (Some q) None → IfSome key (λ k. k ≡ q)
if_keyed true q key e = subst (λ (o : Option (List Value)). IfSome o (λ k. k ≡ q)) (sym e) refl
if_keyed false q key e = subst (λ (o : Option (List Value)). IfSome o (λ k. k ≡ q)) (sym e) tt

pub append_one : {Y : Type 0} (xs : List Y) (o : Option Y) (ys : List Y) → (xs ++ option_to_list o) ++ ys ≡ xs ++ cons_option o ys
append_one xs None ys = append_assoc xs [] ys
append_one xs (Some y) ys = append_assoc xs (y ∷ []) ys

-- the routes that are left, with the next
pub one_left : (read routes : List Route) (i : ℕ) (route : Route) → read ≡ routes → i < length read → route ≡ get_or read i route → drop i routes ≡ route ∷ drop (i + 1) routes
one_left read routes i route same lt is =
    ap (drop i) (sym same) ∙ drop_more read i route lt ∙ ap (λ (r : Route). r ∷ drop (i + 1) read) (sym is) ∙ ap (λ (l : List Route). route ∷ drop (i + 1) l) same

-- the routes and what is taken for each are as many
pub as_many : (m : ℕ) (routes : List Route) (more : List Prepared) → ArePrepared m routes more → length more ≡ length routes
as_many m [] [] h = refl
as_many m [] (ready ∷ more) h = absurd h
as_many m (route ∷ routes) [] h = absurd h
as_many m (route ∷ routes) (ready ∷ more) h = ap suc (as_many m routes more h.1)

-- what is taken for the next route, and for those after it
pub next_prepared : (m : ℕ) (order : OrderKey) (left rest : List Route) (route : Route) (items its : List Prepared) (ready : Prepared) → left ≡ route ∷ rest → items ≡ ready ∷ its → ArePrepared m left items
    → IsPrepared m route ready × ArePrepared m rest its
next_prepared m order left rest route items its ready more popped h = subst (λ (l : List Route). ArePrepared m l (ready ∷ its)) more (subst (ArePrepared m left) popped h)

pub next_linked : (order : OrderKey) (left rest : List Route) (route : Route) (items its : List Prepared) (ready : Prepared) (at : Sequences) (list : List Listed) → left ≡ route ∷ rest → items ≡ ready ∷ its
    → IsLinked (all_begun order left items) at list → IsLinked (begun_by order route ready.begun ++ all_begun order rest its) at list
next_linked order left rest route items its ready at list more popped h = subst (λ (l : List Listed). IsLinked l at list) (λ i. all_begun order (more i) (popped i)) h
