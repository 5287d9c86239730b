-- What ascends from each element to the next ascends.
use Rattle.std.proofs.Common.{◌≡◌, Bool, true, false, ◌&&◌, List, [], ◌∷◌, map, refl, sym, ap}
use Rattle.std.specs.Prelude.{All}
use Rattle.std.specs.Ordering.{is_lt}
use Rattle.std.specs.declared.cmp.Ordering.{Ordering}
use Rattle.std.specs.declared.cmp.Ordering.TheVariants.{Less, Equal, Greater}
use Rattle.std.specs.Cmp.{IsTotalOrder}
use Rattle.std.specs.FinMap.Entries.{below_all, is_sorted}
use Rattle.std.proofs.lemmas.Bool.{and_parts, and_from}
use Rattle.std.proofs.lemmas.List.Elements.{All-nil, All-cons, All-head, All-tail}
use Rattle.eql_values.specs.declared.order.OrderKey.{OrderKey}
use Rattle.eql_values.specs.declared.item.Item.{Item}
use Rattle.eql_values.specs.OrderKeys.{order_cmp, before_all, events_ascend}
use Rattle.eql_values.specs.Adjacent.{begins_above, ascends_next, by_order}
use Rattle.eql_values.specs.Ascending.{AllAreAfter, Ascend}
use Rattle.eql_values.specs.Routes.{RoutesAreInOrder}

less : (o : Ordering) → is_lt o ≡ true → o ≡ Less
less Less is = refl
less Equal is = absurd (cc)
less Greater is = absurd (cc)

module _ {K X : Type 0} (R : K → K → Ordering) (total : IsTotalOrder R) where
  below_more : (k l : K) (es : List (K × X)) → R k l ≡ Less → below_all R l es ≡ true → below_all R k es ≡ true
  below_more k l [] lt below = refl
  below_more k l (e ∷ es) lt below =
      let p = and_parts (is_lt (R l e.0)) (below_all R l es) below in
      and_from (is_lt (R k e.0)) (below_all R k es) (ap is_lt (total.trans k l e.0 lt (less (R l e.0) p.0))) (below_more k l es lt p.1)

  all_below : (k : K) (es : List (K × X)) → begins_above R k es ≡ true → is_sorted R es ≡ true → below_all R k es ≡ true
  all_below k [] up sorted = refl
  all_below k (e ∷ es) up sorted =
      let p = and_parts (below_all R e.0 es) (is_sorted R es) sorted in
      and_from (is_lt (R k e.0)) (below_all R k es) up (below_more k e.0 es (less (R k e.0) up) p.0)

  pub sorted-from_next : (es : List (K × X)) → ascends_next R es ≡ true → is_sorted R es ≡ true
  sorted-from_next [] is = refl
  sorted-from_next (e ∷ es) is =
      let p = and_parts (begins_above R e.0 es) (ascends_next R es) is in
      let rest = sorted-from_next es p.1 in
      and_from (below_all R e.0 es) (is_sorted R es) (all_below e.0 es p.0 rest) rest

  begins-from_below : (k : K) (es : List (K × X)) → below_all R k es ≡ true → begins_above R k es ≡ true
  begins-from_below k [] below = refl
  begins-from_below k (e ∷ es) below = (and_parts (is_lt (R k e.0)) (below_all R k es) below).0

  pub next-from_sorted : (es : List (K × X)) → is_sorted R es ≡ true → ascends_next R es ≡ true
  next-from_sorted [] is = refl
  next-from_sorted (e ∷ es) is =
      let p = and_parts (below_all R e.0 es) (is_sorted R es) is in
      and_from (begins_above R e.0 es) (ascends_next R es) (begins-from_below e.0 es p.0) (next-from_sorted es p.1)

  -- the two tests are one
  pub ascends_next_is : (es : List (K × X)) → ascends_next R es ≡ is_sorted R es
  ascends_next_is es = same_tests (ascends_next R es) (is_sorted R es) (sorted-from_next es) (next-from_sorted es)
    where
      same_tests : (a b : Bool) → (a ≡ true → b ≡ true) → (b ≡ true → a ≡ true) → a ≡ b
      same_tests true b there back = sym (there refl)
      same_tests false true there back = sym (sym (back refl))
      same_tests false false there back = refl

-- the two ways to say that events ascend
before_are : (k : OrderKey) (events : List OrderKey) → below_all order_cmp k (map (λ (x : OrderKey). (x, x)) events) ≡ before_all k events
before_are k [] = refl
before_are k (event ∷ events) = ap (λ (b : Bool). is_lt (order_cmp k event) && b) (before_are k events)

pub events_are : (events : List OrderKey) → is_sorted order_cmp (map (λ (x : OrderKey). (x, x)) events) ≡ events_ascend events
events_are [] = refl
events_are (event ∷ events) = λ i. before_are event events i && events_are events i

-- items that ascend, by the relation and by the test
after_below : (event : OrderKey) (items : List Item) → AllAreAfter event items → below_all order_cmp event (by_order items) ≡ true
after_below event [] after = refl
after_below event (item ∷ items) after =
    and_from (is_lt (order_cmp event item.order)) (below_all order_cmp event (by_order items)) (ap is_lt after.0) (after_below event items after.1)

below_after : (event : OrderKey) (items : List Item) → below_all order_cmp event (by_order items) ≡ true → AllAreAfter event items
below_after event [] below = tt
below_after event (item ∷ items) below =
    let p = and_parts (is_lt (order_cmp event item.order)) (below_all order_cmp event (by_order items)) below in
    (less (order_cmp event item.order) p.0, below_after event items p.1)

pub items_sorted : (items : List Item) → Ascend items → is_sorted order_cmp (by_order items) ≡ true
items_sorted [] up = refl
items_sorted (item ∷ items) up =
    and_from (below_all order_cmp item.order (by_order items)) (is_sorted order_cmp (by_order items)) (after_below item.order items up.1) (items_sorted items up.2)

pub routes_in_order : (items : List Item) → Ascend items → All (λ (item : Item). RoutesAreInOrder item.routes) items
routes_in_order [] up = All-nil (λ (item : Item). RoutesAreInOrder item.routes)
routes_in_order (item ∷ items) up = All-cons (λ (item : Item). RoutesAreInOrder item.routes) item items up.0 (routes_in_order items up.2)

pub items_ascend : (items : List Item) → All (λ (item : Item). RoutesAreInOrder item.routes) items → is_sorted order_cmp (by_order items) ≡ true → Ascend items
items_ascend [] routes sorted = tt
items_ascend (item ∷ items) routes sorted =
    let p = and_parts (below_all order_cmp item.order (by_order items)) (is_sorted order_cmp (by_order items)) sorted in
    (All-head (λ (item : Item). RoutesAreInOrder item.routes) item items routes, below_after item.order items p.0, items_ascend items (All-tail (λ (item : Item). RoutesAreInOrder item.routes) item items routes) p.1)
