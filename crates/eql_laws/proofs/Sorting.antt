-- Items in the order of their places.
use Rattle.std.proofs.Common.{◌≡◌, Bool, cond, List, [], ◌++◌, map, Option, None, refl, sym, ap, ◌∙◌}
use Rattle.std.specs.Prelude.{filter}
use Rattle.std.specs.declared.cmp.Ordering.TheVariants.{Equal}
use Rattle.std.specs.FinMap.Entries.{find, where_key, find-where_key, is_sorted-where_key}
use Rattle.std.proofs.lemmas.List.{map-append}
use Rattle.eql_values.specs.declared.order.OrderKey.{OrderKey}
use Rattle.eql_values.specs.declared.item.Route.{Route}
use Rattle.eql_values.specs.declared.item.Item.{Item}
use Rattle.eql_values.specs.OrderKeys.{order_cmp}
use Rattle.eql_values.specs.Totals.{order_cmp_total}
use Rattle.eql_values.proofs.Same.{order_same}
use Rattle.eql_values.specs.Ordered.{in_order, found_or}
use Rattle.eql_values.proofs.InOrder.{find-append, find-in_order, in_order-sorted, is_in_order}
use Rattle.eql_values.specs.Accepted.{sorted_items}
use Rattle.eql_laws.proofs.Lists.{map_back, map_filter}

abbrev pub Entry : Type 0
Entry = OrderKey × List Route

abbrev pub pair : Item → Entry
pair item = (item.order, item.routes)

abbrev pub back : Entry → Item
back e = record { order = e.0; routes = e.1 }

abbrev pub bare : OrderKey → Item
bare k = record { order = k; routes = [] }

pub alike : (es fs : List Entry) → ((q : OrderKey) → find order_cmp q es ≡ find order_cmp q fs) → in_order order_cmp es ≡ in_order order_cmp fs
alike es fs h = is_in_order order_cmp order_cmp_total order_same (in_order order_cmp es) fs (in_order-sorted order_cmp order_cmp_total es) (λ q. find-in_order order_cmp order_cmp_total q es ∙ h q)

-- items with the same look-ups stand in the same order
pub sorted_alike : (xs ys : List Item) → ((q : OrderKey) → find order_cmp q (map pair xs) ≡ find order_cmp q (map pair ys)) → sorted_items xs ≡ sorted_items ys
sorted_alike xs ys h = ap (map back) (alike (map pair xs) (map pair ys) h)

pub find_sorted : (q : OrderKey) (xs : List Item) → find order_cmp q (map pair (sorted_items xs)) ≡ find order_cmp q (map pair xs)
find_sorted q xs = ap (find order_cmp q) (map_back pair back (λ e. refl) (in_order order_cmp (map pair xs))) ∙ find-in_order order_cmp order_cmp_total q (map pair xs)

pub find_more : (q : OrderKey) (xs ys : List Item) → find order_cmp q (map pair (xs ++ ys)) ≡ found_or (find order_cmp q (map pair xs)) (find order_cmp q (map pair ys))
find_more q xs ys = ap (find order_cmp q) (map-append pair xs ys) ∙ find-append order_cmp q (map pair xs) (map pair ys)

pub sorted_more : (xs ys : List Item) → sorted_items (sorted_items xs ++ ys) ≡ sorted_items (xs ++ ys)
sorted_more xs ys = sorted_alike (sorted_items xs ++ ys) (xs ++ ys) (λ q.
    find_more q (sorted_items xs) ys ∙ ap (λ (o : Option (List Route)). found_or o (find order_cmp q (map pair ys))) (find_sorted q xs) ∙ sym (find_more q xs ys))

-- a test of an item's place
abbrev pub OfPlace : (Item → Bool) → Type 0
OfPlace p = (i : Item) → p i ≡ p (bare i.order)

module _ (p : Item → Bool) (place : OfPlace p) where
  pub filter_back : (es : List Entry) → filter p (map back es) ≡ map back (where_key order_cmp (λ k. p (bare k)) es)
  filter_back es = sym (map_filter back (λ e. p (bare e.0)) p (λ e. sym (place (back e))) es)

  pub filter_pair : (xs : List Item) → map pair (filter p xs) ≡ where_key order_cmp (λ k. p (bare k)) (map pair xs)
  filter_pair xs = map_filter pair p (λ e. p (bare e.0)) place xs

  same_test : (q x : OrderKey) → order_cmp q x ≡ Equal → p (bare x) ≡ p (bare q)
  same_test q x e = ap (λ (k : OrderKey). p (bare k)) (sym (order_same q x e))

  kept_order : (es : List Entry) → where_key order_cmp (λ k. p (bare k)) (in_order order_cmp es) ≡ in_order order_cmp (where_key order_cmp (λ k. p (bare k)) es)
  kept_order es =
      is_in_order order_cmp order_cmp_total order_same (where_key order_cmp (λ k. p (bare k)) (in_order order_cmp es)) (where_key order_cmp (λ k. p (bare k)) es)
      (is_sorted-where_key order_cmp (λ k. p (bare k)) (in_order order_cmp es) (in_order-sorted order_cmp order_cmp_total es))
      (λ q. find-where_key order_cmp (λ k. p (bare k)) q (same_test q) (in_order order_cmp es)
      ∙ ap (λ (o : Option (List Route)). cond (p (bare q)) o None) (find-in_order order_cmp order_cmp_total q es)
      ∙ sym (find-where_key order_cmp (λ k. p (bare k)) q (same_test q) es))

  -- leaving out by place and putting in order go together
  pub filter_sorted : (xs : List Item) → filter p (sorted_items xs) ≡ sorted_items (filter p xs)
  filter_sorted xs =
      filter_back (in_order order_cmp (map pair xs))
      ∙ ap (map back) (kept_order (map pair xs) ∙ ap (in_order order_cmp) (sym (filter_pair xs)))
