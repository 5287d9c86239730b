-- What pieces of lists of events keep of the order and the times of the whole.
use Rattle.std.proofs.Common.{◌≡◌, ◌≤◌, ℕ, suc, ℤ, ◌≤ℤ◌, Bool, true, List, [], ◌∷◌, ◌++◌, map, length, refl, sym, subst, arith, T}
use Rattle.std.specs.Prelude.{filter, not, ◌==◌, All}
use Rattle.std.specs.List.{cons_option}
use Rattle.std.specs.Int.Signed.{lt_z}
use Rattle.std.specs.Ordering.{int_cmp, ordering_then}
use Rattle.std.specs.declared.cmp.Ordering.{Ordering}
use Rattle.std.specs.declared.cmp.Ordering.TheVariants.{Less, Equal, Greater}
use Rattle.std.specs.FinMap.Entries.{is_sorted, is_sorted-where_key}
use Rattle.std.proofs.lemmas.Int.{ints}
use Rattle.std.proofs.lemmas.Cmp.{int_ranked}
use Rattle.std.proofs.lemmas.List.Elements.{All-head, All-tail, All-filter, filter_map-append}
use Rattle.eql_values.specs.declared.order.OrderKey.{OrderKey}
use Rattle.eql_values.specs.declared.order.Mark.TheVariants.{At}
use Rattle.eql_values.specs.declared.value.Value.{Value}
use Rattle.eql_values.specs.declared.item.Route.{Route}
use Rattle.eql_values.specs.declared.item.Item.{Item}
use Rattle.eql_values.specs.Accepted.{accepted_from}
use Rattle.eql_values.specs.Ascending.{AllAreAfter, Ascend}
use Rattle.eql_values.specs.Marks.{is_below}
use Rattle.eql_values.specs.OrderKeys.{order_cmp}
use Rattle.eql_values.specs.Orders.{key_cmp}
use Rattle.eql_values.specs.Routes.{RoutesAreInOrder}
use Rattle.eql_values.specs.Routing.{with_routes, routed_items}
use Rattle.eql_laws.specs.Alive.{ItemsComeFrom}
use Rattle.eql_laws.specs.Belows.{from_to, between}
use Rattle.eql_laws.specs.Pieces.{RoutedKeepsPieces, TimesKeep, TimesComeAfter, TimesComeBetween}
use Rattle.eql_laws.proofs.BelowLemmas.{All-sorted}
use Rattle.eql_laws.proofs.Elements.{All-passed}
use Rattle.eql_laws.proofs.Facts.{holds_true}
use Rattle.eql_laws.proofs.Lists.{map_filter}

after_pieces : (event : OrderKey) (a b : List Item) → AllAreAfter event (a ++ b) → AllAreAfter event a × AllAreAfter event b
after_pieces event [] b h = (tt, h)
after_pieces event (item ∷ a) b h = let rest = after_pieces event a b h.1 in ((h.0, rest.0), rest.1)

-- a beginning of ascending items ascends, and so does the rest
pub ascending_pieces : (a b : List Item) → Ascend (a ++ b) → Ascend a × Ascend b
ascending_pieces [] b up = (tt, up)
ascending_pieces (item ∷ a) b up =
    let rest = ascending_pieces a b up.2 in ((up.0, (after_pieces item.order a b up.1).0, rest.0), rest.1)

module _ (part : List Value → ℕ) (p : ℕ) where
  abbrev of_part : Route → Bool
  of_part route = part route.key == p

  fewer_one : (item : Item) (routes : List Route) (items : List Item) (n : ℕ) → length items ≤ n → length (cons_option (with_routes item routes) items) ≤ suc n
  fewer_one item [] items n h = omega (arith, h)
  fewer_one item (route ∷ routes) items n h = omega (arith, h)

  fewer_routed : (items : List Item) → length (routed_items part p items) ≤ length items
  fewer_routed [] = omega arith
  fewer_routed (item ∷ items) = fewer_one item (filter of_part item.routes) (routed_items part p items) (length items) (fewer_routed items)

  after_one : (event : OrderKey) (item : Item) (routes : List Route) (items : List Item) → order_cmp event item.order ≡ Less → AllAreAfter event items
      → AllAreAfter event (cons_option (with_routes item routes) items)
  after_one event item [] items lt h = h
  after_one event item (route ∷ routes) items lt h = (lt, h)

  after_routed_items : (event : OrderKey) (items : List Item) → AllAreAfter event items → AllAreAfter event (routed_items part p items)
  after_routed_items event [] h = tt
  after_routed_items event (item ∷ items) h = after_one event item (filter of_part item.routes) (routed_items part p items) h.0 (after_routed_items event items h.1)

  routes_of_part : (routes : List Route) → RoutesAreInOrder routes → RoutesAreInOrder (filter of_part routes)
  routes_of_part routes h =
      holds_true _ (subst (λ (es : List (List Value × Route)). T (is_sorted key_cmp es)) (sym (map_filter (λ (r : Route). (r.key, r)) of_part (λ e. part e.0 == p) (λ r. refl) routes))
      (is_sorted-where_key key_cmp (λ k. part k == p) (map (λ (r : Route). (r.key, r)) routes) (subst T (sym h) tt)))

  ascends_one : (item : Item) (routes : List Route) (items : List Item) → RoutesAreInOrder routes → AllAreAfter item.order items → Ascend items
      → Ascend (cons_option (with_routes item routes) items)
  ascends_one item [] items h k up = up
  ascends_one item (route ∷ routes) items h k up = (h, k, up)

  routed_ascends : (items : List Item) → Ascend items → Ascend (routed_items part p items)
  routed_ascends [] up = tt
  routed_ascends (item ∷ items) up =
      ascends_one item (filter of_part item.routes) (routed_items part p items) (routes_of_part item.routes up.0) (after_routed_items item.order items up.1) (routed_ascends items up.2)

  from_one : (t : ℤ) (item : Item) (routes : List Route) (items : List Item) → t ≤ℤ item.order.ts → ItemsComeFrom t items → ItemsComeFrom t (cons_option (with_routes item routes) items)
  from_one t item [] items le h = h
  from_one t item (route ∷ routes) items le h = (le, h)

  routed_from : (t : ℤ) (items : List Item) → ItemsComeFrom t items → ItemsComeFrom t (routed_items part p items)
  routed_from t [] h = tt
  routed_from t (item ∷ items) h = from_one t item (filter of_part item.routes) (routed_items part p items) h.0 (routed_from t items h.1)

pub routed_pieces : RoutedKeepsPieces
routed_pieces part p = record {
  pieces = λ a b. filter_map-append _ a b;
  fewer = fewer_routed part p;
  ascends = routed_ascends part p;
  times = routed_from part p;
}

from_pieces : (t : ℤ) (a b : List Item) → ItemsComeFrom t (a ++ b) → ItemsComeFrom t a × ItemsComeFrom t b
from_pieces t [] b h = (tt, h)
from_pieces t (item ∷ a) b h = let rest = from_pieces t a b h.1 in ((h.0, rest.0), rest.1)

from_lesser : (t u : ℤ) (items : List Item) → t ≤ℤ u → ItemsComeFrom u items → ItemsComeFrom t items
from_lesser t u [] le h = tt
from_lesser t u (item ∷ items) le h = (let a = h.0 in omega (arith, ints, a, le), from_lesser t u items le h.1)

pub times_keep : TimesKeep
times_keep = record { pieces = from_pieces; lesser = from_lesser }

later_time : (t u : ℤ) (o rest : Ordering) → o ≡ int_cmp t u → ordering_then o rest ≡ Less → t ≤ℤ u
later_time t u Less rest e h = let k = int_ranked t u Less e in omega (arith, ints, k)
later_time t u Equal rest e h = let k = int_ranked t u Equal e in omega (arith, ints, k)
later_time t u Greater rest e h = cc

pub times_after : TimesComeAfter
times_after event [] h = tt
times_after event (item ∷ items) h = (later_time event.ts item.order.ts (int_cmp event.ts item.order.ts) _ refl h.0, times_after event items h.1)

not_earlier : (t ts : ℤ) → not (lt_z ts t) ≡ true → t ≤ℤ ts
not_earlier t ts h = grind (arith, ints)

from_all : (t : ℤ) (items : List Item) → All (λ (item : Item). t ≤ℤ item.order.ts) items → ItemsComeFrom t items
from_all t [] h = tt
from_all t (item ∷ items) h = (All-head (λ (item : Item). t ≤ℤ item.order.ts) item items h, from_all t items (All-tail (λ (item : Item). t ≤ℤ item.order.ts) item items h))

pub times_between : TimesComeBetween
times_between reads slack texts t to =
    from_all t (between reads slack texts (At t) to)
    (All-sorted (λ (item : Item). t ≤ℤ item.order.ts) (from_to (At t) to (accepted_from reads slack 0 texts))
    (All-filter (is_below to) (λ (item : Item). t ≤ℤ item.order.ts) (filter (λ item. not (is_below (At t) item)) (accepted_from reads slack 0 texts))
    (All-passed (λ (item : Item). Unit {0}) (λ (item : Item). t ≤ℤ item.order.ts) (λ item. not (is_below (At t) item)) (λ item u e. not_earlier t item.order.ts e)
    (accepted_from reads slack 0 texts) (λ k d lt. tt))))
