-- A store of items by their places, seen as the items in order.
use Rattle.std.proofs.Common.{◌≡◌, ℕ, suc, ◌<◌, ◌≤◌, ◌+◌, Bool, true, false, cond, List, [], ◌∷◌, length, map, take, drop, ℤ, ◌≤ℤ◌, Option, Some, None, refl, sym, ap, subst, ◌∙◌, arith, T}
use Rattle.std.specs.Prelude.{IsTrue, filter, not}
use Rattle.std.specs.Ordering.{eq_by_cmp, match_ordering}
use Rattle.std.specs.declared.cmp.Ordering.{Ordering}
use Rattle.std.specs.declared.cmp.Ordering.TheVariants.{Less, Equal, Greater}
use Rattle.std.specs.BTreeMap.{insert_entry}
use Rattle.std.specs.Map.{keys_of}
use Rattle.std.specs.FinMap.Entries.{put, where_key, below_all, find, is_sorted, is_sorted-put, is_sorted-where_key, by_order}
use Rattle.std.proofs.lemmas.List.Elements.{All-head, All-tail}
use Rattle.eql_values.specs.declared.order.OrderKey.{OrderKey}
use Rattle.eql_values.specs.declared.item.Route.{Route}
use Rattle.eql_values.specs.declared.item.Item.{Item}
use Rattle.eql_values.specs.declared.order.Mark.{Mark}
use Rattle.eql_values.specs.declared.order.Mark.TheVariants.{Start, At, End}
use Rattle.eql_values.specs.Marks.{is_below}
use Rattle.std.specs.List.{take_while, prefix_len}
use Rattle.std.proofs.Math.Numerals.{one-add}
use Rattle.std.specs.Int.Signed.{lt_z}
use Rattle.std.proofs.lemmas.Int.{ints}
use Rattle.std.specs.Ordering.{ordering_then}
use Rattle.eql_values.specs.Accepted.{sorted_items}
use Rattle.eql_values.specs.OrderKeys.{order_cmp}
use Rattle.eql_values.specs.Totals.{order_cmp_total}
use Rattle.eql_values.proofs.Same.{order_same}
use Rattle.eql_values.specs.Ordered.{found_or}
use Rattle.eql_values.proofs.InOrder.{is_in_order}
use Rattle.eql_laws.proofs.Facts.{is_equal, holds_true, both_true, is_less}
use Rattle.eql_laws.proofs.Lists.{map_back}
use Rattle.eql_laws.proofs.Sorting.{Entry, pair, back, bare, filter_back}
use Rattle.eql_lane.specs.Holding.{Entries, items_in, LinesAreBelow}

true_there : (b : Bool) → b ≡ true → T b
true_there b h = subst T (sym h) tt

put_is : (o : Ordering) (e : Entry) (k : OrderKey) (v : List Route) (es more less : Entries) → more ≡ less
    → match_ordering o ((k, v) ∷ e ∷ es) ((e.0, v) ∷ es) (e ∷ more) ≡ by_order o ((k, v) ∷ e ∷ es) ((e.0, v) ∷ es) (e ∷ less)
put_is Less e k v es more less h = refl
put_is Equal e k v es more less h = refl
put_is Greater e k v es more less h = ap (λ (l : Entries). e ∷ l) h

pub insert_is_put : (k : OrderKey) (v : List Route) (es : Entries) → insert_entry order_cmp es k v ≡ put order_cmp k v es
insert_is_put k v [] = refl
insert_is_put k v (e ∷ es) = put_is (order_cmp k e.0) e k v es (insert_entry order_cmp es k v) (put order_cmp k v es) (insert_is_put k v es)

-- a store in order is what putting its items in order gives
pub sorted_again : (es : Entries) → IsTrue (is_sorted order_cmp es) → items_in es ≡ sorted_items (items_in es)
sorted_again es sorted =
    ap (map back) (is_in_order order_cmp order_cmp_total order_same es (map pair (map back es)) (true_there _ sorted) (λ q. ap (find order_cmp q) (sym (map_back pair back (λ e. refl) es))))

pub one_more : (b : Bool) (v : List Route) (o : Option (List Route)) → (b ≡ true → o ≡ None) → cond b (Some v) o ≡ found_or o (cond b (Some v) None)
one_more true v o h = let e = h refl in sym (ap (λ (p : Option (List Route)). found_or p (Some v)) e)
one_more false v None h = refl
one_more false v (Some w) h = refl

-- no item of a lesser line is at the place
not_there : (n : ℕ) (q : OrderKey) (e : Entry) (o : Option (List Route)) (b : Bool) → eq_by_cmp order_cmp q e.0 ≡ b → n ≤ q.line → e.0.line < n → o ≡ None
    → cond b (Some e.1) o ≡ None
not_there n q e o true h le lt none =
    let line : q.line ≡ e.0.line = ap (λ (k : OrderKey). k.line) (order_same q e.0 (is_equal _ h)) in absurd (omega arith)
not_there n q e o false h le lt none = none

pub none_there : (n : ℕ) (q : OrderKey) (es : Entries) → n ≤ q.line → LinesAreBelow n es → find order_cmp q es ≡ None
none_there n q [] le below = refl
none_there n q (e ∷ es) le below =
    not_there n q e (find order_cmp q es) (eq_by_cmp order_cmp q e.0) refl le (All-head (λ (k : OrderKey). k.line < n) e.0 (keys_of es) below)
    (none_there n q es le (All-tail (λ (k : OrderKey). k.line < n) e.0 (keys_of es) below))

pub insert_keeps_order : (k : OrderKey) (v : List Route) (es : Entries) → IsTrue (is_sorted order_cmp es) → IsTrue (is_sorted order_cmp (insert_entry order_cmp es k v))
insert_keeps_order k v es sorted = subst (λ (fs : Entries). IsTrue (is_sorted order_cmp fs)) (sym (insert_is_put k v es)) (holds_true _ (is_sorted-put order_cmp order_cmp_total k v es (true_there _ sorted)))

-- ---- the items below a mark are the first ones
ts_le : (x y : ℤ) (a b : Bool) (r : Ordering) → lt_z x y ≡ a → lt_z y x ≡ b → ordering_then (cond a Less (cond b Greater Equal)) r ≡ Less → x ≤ℤ y
ts_le x y true b r e f h = grind (arith, ints)
ts_le x y false true r e f h = cc
ts_le x y false false r e f h = grind (arith, ints)

first_less : (x y : OrderKey) → order_cmp x y ≡ Less → x.ts ≤ℤ y.ts
first_less x y less = ts_le x.ts y.ts (lt_z x.ts y.ts) (lt_z y.ts x.ts) _ refl refl less

not_before : (t x y : ℤ) → x ≤ℤ y → lt_z x t ≡ false → lt_z y t ≡ false
not_before t x y le h = grind (arith, ints)

pub of_place : (m : Mark) (i : Item) → is_below m i ≡ is_below m (bare i.order)
of_place Start i = refl
of_place (At t) i = refl
of_place End i = refl

first_one : (e : Entry) (es w : Entries) (b : Bool) → w ≡ take (length w) es → (b ≡ false → w ≡ []) → cond b (e ∷ w) w ≡ take (length (cond b (e ∷ w) w)) (e ∷ es)
first_one e es w true h none = ap (λ (l : Entries). e ∷ l) h
first_one e es w false h none = none refl ∙ sym (ap (λ (l : Entries). take (length l) (e ∷ es)) (none refl))

others_one : (e : Entry) (es w o : Entries) (b : Bool) → o ≡ drop (length w) es → (b ≡ false → w ≡ []) → cond (not b) (e ∷ o) o ≡ drop (length (cond b (e ∷ w) w)) (e ∷ es)
others_one e es w o true h none = h
others_one e es w o false h none =
    ap (λ (l : Entries). e ∷ l) (h ∙ ap (λ (l : Entries). drop (length l) es) (none refl)) ∙ sym (ap (λ (l : Entries). drop (length l) (e ∷ es)) (none refl))

counted_one : (k : OrderKey) (ks : List OrderKey) (e : Entry) (w : Entries) (b : Bool) (n : ℕ) → length (take n ks) ≡ length w → (b ≡ false → w ≡ [])
    → length (take (cond b (1 + n) 0) (k ∷ ks)) ≡ length (cond b (e ∷ w) w)
counted_one k ks e w true n h none = ap (λ (m : ℕ). length (take m (k ∷ ks))) (one-add n) ∙ ap suc h
counted_one k ks e w false n h none = sym (ap length (none refl))

module _ (mark : Mark) where
  abbrev pub low_key : OrderKey → Bool
  low_key k = is_below mark (bare k)

  module _ where
    pub by_order_below : (m : Mark) (x y : OrderKey) → order_cmp x y ≡ Less → is_below m (bare x) ≡ false → is_below m (bare y) ≡ false
    by_order_below Start x y less h = refl
    by_order_below (At t) x y less h = not_before t x.ts y.ts (first_less x y less) h
    by_order_below End x y less h = cc

  none_later : (k : OrderKey) (es : Entries) → IsTrue (below_all order_cmp k es) → low_key k ≡ false → where_key order_cmp low_key es ≡ []
  none_later k [] sorted h = refl
  none_later k (f ∷ es) sorted h =
      let both = both_true _ _ sorted in
      let no : low_key f.0 ≡ false = by_order_below mark k f.0 (is_less _ (true_there _ both.0)) h in
      ap (λ (b : Bool). cond b (f ∷ where_key order_cmp low_key es) (where_key order_cmp low_key es)) no ∙ none_later k es both.1 h

  -- the first are below, the others aren't, and as many are below as stand below before the first that isn't
  pub record Prefix (es : Entries) : Type 0 where
    pub first : where_key order_cmp low_key es ≡ take (length (where_key order_cmp low_key es)) es
    pub others : where_key order_cmp (λ k. not (low_key k)) es ≡ drop (length (where_key order_cmp low_key es)) es
    pub counted : length (take_while low_key (keys_of es)) ≡ length (where_key order_cmp low_key es)

  pub prefix : (es : Entries) → IsTrue (is_sorted order_cmp es) → Prefix es
  prefix [] sorted = record { first = refl; others = refl; counted = refl }
  prefix (e ∷ es) sorted =
      let both = both_true _ _ sorted in
      let p = prefix es both.1 in
      let w : Entries = where_key order_cmp low_key es in
      let none = none_later e.0 es both.0 in
      record {
        first = first_one e es w (low_key e.0) p.first none;
        others = others_one e es w (where_key order_cmp (λ k. not (low_key k)) es) (low_key e.0) p.others none;
        counted = counted_one e.0 (keys_of es) e w (low_key e.0) (prefix_len low_key (keys_of es)) p.counted none;
      }

  pub below_is : (es : Entries) → filter (is_below mark) (items_in es) ≡ items_in (where_key order_cmp low_key es)
  below_is es = filter_back (is_below mark) (of_place mark) es

  pub others_are : (es : Entries) → filter (λ item. not (is_below mark item)) (items_in es) ≡ items_in (where_key order_cmp (λ k. not (low_key k)) es)
  others_are es = filter_back (λ item. not (is_below mark item)) (λ i. ap not (of_place mark i)) es

pub length_items : (es : Entries) → length (items_in es) ≡ length es
length_items [] = refl
length_items (e ∷ es) = ap suc (length_items es)

-- what is taken out, and what stays
pub record TakenOut (mark : Mark) (es : Entries) (n : ℕ) : Type 0 where
  pub taken : items_in (take n es) ≡ filter (is_below mark) (items_in es)
  pub stays : items_in (drop n es) ≡ filter (λ item. not (is_below mark item)) (items_in es)
  pub sorted : IsTrue (is_sorted order_cmp (drop n es))

taken_of : (mark : Mark) (es : Entries) → IsTrue (is_sorted order_cmp es) → TakenOut mark es (length (where_key order_cmp (low_key mark) es))
taken_of mark es sorted =
    let p = prefix mark es sorted in
    record {
      taken = ap items_in (sym p.first) ∙ sym (below_is mark es);
      stays = ap items_in (sym p.others) ∙ sym (others_are mark es);
      sorted = subst (λ (fs : Entries). IsTrue (is_sorted order_cmp fs)) p.others (holds_true _ (is_sorted-where_key order_cmp (λ k. not (low_key mark k)) es (true_there _ sorted)));
    }

pub count_is : (mark : Mark) (es : Entries) → length (filter (is_below mark) (items_in es)) ≡ length (where_key order_cmp (low_key mark) es)
count_is mark es = ap length (below_is mark es) ∙ length_items (where_key order_cmp (low_key mark) es)

pub taken_out : (mark : Mark) (es : Entries) (n : ℕ) → IsTrue (is_sorted order_cmp es) → n ≡ length (filter (is_below mark) (items_in es)) → TakenOut mark es n
taken_out mark es n sorted e = subst (TakenOut mark es) (sym (e ∙ count_is mark es)) (taken_of mark es sorted)
