-- Routes that are gathered stage by stage are those of all stages.
use Rattle.std.proofs.Common.{◌≡◌, ℕ, zero, suc, ◌+◌, ◌*◌, ◌-◌, ◌^◌, Bool, true, false, List, [], ◌∷◌, ◌++◌, map, length, take, drop, Option, Some, None, refl, ap, sym, ◌∙◌}
use Rattle.std.specs.Prelude.{cond, ◌&&◌, replicate, min}
use Rattle.std.specs.Int.Bits.{or_zero_r}
use Rattle.std.specs.Ordering.{is_lt, is_eq, ordering_reverse}
use Rattle.std.specs.FinMap.Entries.{put, find, below_all, is_sorted, by_order, is_sorted-put, find-put}
use Rattle.std.specs.declared.cmp.Ordering.{Ordering}
use Rattle.std.specs.declared.cmp.Ordering.TheVariants.{Less, Equal, Greater}
use Rattle.std.proofs.lemmas.Bool.{and_parts}
use Rattle.std.proofs.lemmas.List.{append-nil, take-append-drop}
use Rattle.eql_values.specs.declared.value.Value.{Value}
use Rattle.eql_values.specs.declared.item.Mask.{Mask}
use Rattle.eql_values.specs.declared.item.Route.{Route}
use Rattle.eql_values.specs.Orders.{key_cmp, key_eq}
use Rattle.eql_values.specs.Ordered.{in_order, found_or}
use Rattle.eql_values.specs.Totals.{key_cmp_total}
use Rattle.eql_values.proofs.Same.{key_same}
use Rattle.eql_values.proofs.InOrder.{find-in_order, in_order-sorted, is_in_order}
use Rattle.eql_stages.specs.Given.{Given, bits_of, mask_of, route_by, routes_by}
use Rattle.eql_stages.specs.Gathering.{union, joined_route, said_routes}
use Rattle.eql_stages.specs.Standing.{Entries, entries_of, entries-append, found-append, routes-entries, in_order_sorted, itself}
use Rattle.eql_stages.proofs.Bits.{mask-more, mask-other}

pub turned : (x y : List Value) → key_eq x y ≡ key_eq y x
turned x y = ap is_eq (key_cmp_total.antisymm x y) ∙ back (key_cmp y x)
  where
    back : (o : Ordering) → is_eq (ordering_reverse o) ≡ is_eq o
    back Less = refl
    back Equal = refl
    back Greater = refl

is_less : (o : Ordering) → is_lt o ≡ true → o ≡ Less
is_less Less h = refl
is_less Equal h = cc
is_less Greater h = cc

is_equal : (o : Ordering) → is_eq o ≡ true → o ≡ Equal
is_equal Equal h = refl
is_equal Less h = cc
is_equal Greater h = cc

-- a key below the first of some is below all
below_more : (k x : List Value) (es : Entries) → key_cmp k x ≡ Less → below_all key_cmp x es ≡ true → below_all key_cmp k es ≡ true
below_more k x [] l h = refl
below_more k x (e ∷ es) l h =
    let both = and_parts (is_lt (key_cmp x e.0)) (below_all key_cmp x es) h in
    let first : key_cmp k e.0 ≡ Less = key_cmp_total.trans k x e.0 l (is_less (key_cmp x e.0) both.0) in
    ap (λ (o : Ordering). is_lt o && below_all key_cmp k es) first ∙ below_more k x es l both.1

-- a key below all has no entry
none_below : (k : List Value) (es : Entries) → below_all key_cmp k es ≡ true → find key_cmp k es ≡ None
none_below k [] h = refl
none_below k (e ∷ es) h =
    let both = and_parts (is_lt (key_cmp k e.0)) (below_all key_cmp k es) h in
    let first : key_cmp k e.0 ≡ Less = is_less (key_cmp k e.0) both.0 in
    ap (λ (o : Ordering). cond (is_eq o) (Some e.1) (find key_cmp k es)) first ∙ none_below k es both.1

module _ (key : List Value) (a b : List Given) (u v : Given) (mask : Mask) (until : Bool)
    (others : (q : List Value) → key_eq key q ≡ false → route_by b v q ≡ route_by a u q)
    (here : route_by b v key ≡ joined_route mask until (route_by a u key))
  where
    abbrev fresh : Route
    fresh = record { key = key; mask = mask; until = until }

    -- what was said to keys above this one stays
    above_same : (es : Entries) → below_all key_cmp key es ≡ true
        → map (λ (e : List Value × ℕ). route_by b v e.0) es ≡ map (λ (e : List Value × ℕ). route_by a u e.0) es
    above_same [] h = refl
    above_same (e ∷ es) h =
        let both = and_parts (is_lt (key_cmp key e.0)) (below_all key_cmp key es) h in
        let first : key_cmp key e.0 ≡ Less = is_less (key_cmp key e.0) both.0 in
        λ i. others e.0 (ap is_eq first) i ∷ above_same es both.1 i

    one_said : (e : List Value × ℕ) (es : Entries) → is_sorted key_cmp (e ∷ es) ≡ true
        → (find key_cmp key (e ∷ es) ≡ None → route_by b v key ≡ fresh)
        → ((find key_cmp key es ≡ None → route_by b v key ≡ fresh)
        → said_routes key mask until (map (λ (e : List Value × ℕ). route_by a u e.0) es)
        ≡ map (λ (e : List Value × ℕ). route_by b v e.0) (put key_cmp key 0 es))
        → (o : Ordering) → key_cmp key e.0 ≡ o
        → by_order o
        (fresh ∷ route_by a u e.0 ∷ map (λ (e : List Value × ℕ). route_by a u e.0) es)
        (joined_route mask until (route_by a u e.0) ∷ map (λ (e : List Value × ℕ). route_by a u e.0) es)
        (route_by a u e.0 ∷ said_routes key mask until (map (λ (e : List Value × ℕ). route_by a u e.0) es))
        ≡ map (λ (e : List Value × ℕ). route_by b v e.0) (by_order o ((key, 0) ∷ e ∷ es) ((e.0, 0) ∷ es) (e ∷ put key_cmp key 0 es))
    one_said e es sorted new rest Less is =
        let parts = and_parts (below_all key_cmp e.0 es) (is_sorted key_cmp es) sorted in
        let below = below_more key e.0 es is parts.0 in
        let none : find key_cmp key (e ∷ es) ≡ None = ap (λ (o : Ordering). cond (is_eq o) (Some e.1) (find key_cmp key es)) is ∙ none_below key es below in
        λ i. sym (new none) i ∷ sym (others e.0 (ap is_eq is)) i ∷ sym (above_same es below) i
    one_said e es sorted new rest Equal is =
        let parts = and_parts (below_all key_cmp e.0 es) (is_sorted key_cmp es) sorted in
        let same : key ≡ e.0 = key_same key e.0 is in
        let below : below_all key_cmp key es ≡ true = ap (λ (k : List Value). below_all key_cmp k es) same ∙ parts.0 in
        let first : joined_route mask until (route_by a u e.0) ≡ route_by b v e.0 =
        ap (λ (k : List Value). joined_route mask until (route_by a u k)) (sym same) ∙ sym here ∙ ap (route_by b v) same in
        λ i. first i ∷ sym (above_same es below) i
    one_said e es sorted new rest Greater is =
        let tail : (find key_cmp key es ≡ None → route_by b v key ≡ fresh) = λ none.
        new (ap (λ (o : Ordering). cond (is_eq o) (Some e.1) (find key_cmp key es)) is ∙ none) in
        λ i. sym (others e.0 (ap is_eq is)) i ∷ rest tail i

    -- what is said to one key more
    pub said-put : (es : Entries) → is_sorted key_cmp es ≡ true → (find key_cmp key es ≡ None → route_by b v key ≡ fresh)
        → said_routes key mask until (map (λ (e : List Value × ℕ). route_by a u e.0) es)
        ≡ map (λ (e : List Value × ℕ). route_by b v e.0) (put key_cmp key 0 es)
    said-put [] sorted new = λ i. sym (new refl) i ∷ []
    said-put (e ∷ es) sorted new =
        one_said e es sorted new (said-put es (and_parts (below_all key_cmp e.0 es) (is_sorted key_cmp es) sorted).1) (key_cmp key e.0) refl

-- a key without an entry is given to no stage
pub none_given : (key : List Value) (a : List Given) → find key_cmp key (entries_of a) ≡ None → bits_of key a ≡ 0
none_given key [] none = refl
none_given key (None ∷ a) none = ap (λ (n : ℕ). 0 + 2 * n) (none_given key a none)
none_given key (Some other ∷ a) none = by (key_eq key other) (none_given key a) none
  where
    by : (b : Bool) → (find key_cmp key (entries_of a) ≡ None → bits_of key a ≡ 0) → cond b (Some 0) (find key_cmp key (entries_of a)) ≡ None
        → cond b 1 0 + 2 * bits_of key a ≡ 0
    by true rest h = cc
    by false rest h = ap (λ (n : ℕ). 0 + 2 * n) (rest h)

-- an item that gives no key adds none
pub trailing : (xs : List Given) → entries_of (xs ++ None ∷ []) ≡ entries_of xs
trailing xs = entries-append xs (None ∷ []) ∙ append-nil (entries_of xs)

neither : {X : Type 0} (o p : Option X) → found_or o p ≡ None → (o ≡ None) × (p ≡ None)
neither None p h = (refl, h)
neither (Some x) p h = cc

-- a key without an entry has no stage
no_stage : (key : List Value) (a : List Given) → find key_cmp key (entries_of a) ≡ None → mask_of key a ≡ record { low = 0; high = 0 }
no_stage key a none =
    let halves = neither (find key_cmp key (entries_of (take 128 a))) (find key_cmp key (entries_of (drop 128 a)))
    (sym (found-append key (take 128 a) (drop 128 a)) ∙ ap (λ (g : List Given). find key_cmp key (entries_of g)) (take-append-drop 128 a) ∙ none) in
    λ i. record { low = none_given key (take 128 a) halves.0 i; high = none_given key (drop 128 a) halves.1 i }

-- a key is found where it was found before, or is the one more
one_found : (q key : List Value) (a : List Given)
    → found_or (find key_cmp q (entries_of a)) (cond (key_eq q key) (Some 0) None) ≡ cond (key_eq q key) (Some 0) (find key_cmp q (entries_of a))
one_found q key [] = refl
one_found q key (None ∷ a) = one_found q key a
one_found q key (Some other ∷ a) = by (key_eq q other) (key_eq q key) (one_found q key a)
  where
    by : (b c : Bool) → found_or (find key_cmp q (entries_of a)) (cond c (Some 0) None) ≡ cond c (Some 0) (find key_cmp q (entries_of a))
        → found_or (cond b (Some 0) (find key_cmp q (entries_of a))) (cond c (Some 0) None) ≡ cond c (Some 0) (cond b (Some 0) (find key_cmp q (entries_of a)))
    by true true h = refl
    by true false h = refl
    by false true h = h
    by false false h = h

-- where a list of keys is found with one key more, its order has that key more
grown : (c d : List Given) (key : List Value)
    → ((q : List Value) → find key_cmp q (entries_of d) ≡ found_or (find key_cmp q (entries_of c)) (cond (key_eq q key) (Some 0) None))
    → put key_cmp key 0 (in_order key_cmp (entries_of c)) ≡ in_order key_cmp (entries_of d)
grown c d key more =
    is_in_order key_cmp key_cmp_total key_same (put key_cmp key 0 (in_order key_cmp (entries_of c))) (entries_of d)
    (is_sorted-put key_cmp key_cmp_total key 0 (in_order key_cmp (entries_of c)) (in_order-sorted key_cmp key_cmp_total (entries_of c)))
    (λ q. find-put key_cmp key_cmp_total q key 0 (in_order key_cmp (entries_of c))
    ∙ ap (λ (o : Option ℕ). cond (key_eq q key) (Some 0) o) (find-in_order key_cmp key_cmp_total q (entries_of c))
    ∙ sym (one_found q key c) ∙ sym (more q))

runs_found : (q key : List Value) (n : ℕ) → find key_cmp q (entries_of (replicate (suc n) (Some key))) ≡ cond (key_eq q key) (Some 0) None
runs_found q key zero = refl
runs_found q key (suc n) = ap (λ (o : Option ℕ). cond (key_eq q key) (Some 0) o) (runs_found q key n) ∙ again (key_eq q key)
  where
    again : (b : Bool) → ◌≡◌ {A = Option ℕ} (cond b (Some 0) (cond b (Some 0) None)) (cond b (Some 0) None)
    again true = refl
    again false = refl

-- the stages of an item are said to their key
pub said-item : (a : List Given) (key : List Value) (p n : ℕ) (mask : Mask) → length a ≡ p
    → mask.low ≡ 2 ^ min (p + suc n) 128 - 2 ^ min p 128 → mask.high ≡ 2 ^ (p + suc n - 128) - 2 ^ (p - 128)
    → said_routes key mask false (routes_by a None) ≡ routes_by (a ++ replicate (suc n) (Some key)) None
said-item a key p n mask len low high =
    let b : List Given = a ++ replicate (suc n) (Some key) in
    let more : mask_of key b ≡ union (mask_of key a) mask = mask-more key a (Some key) p (suc n) mask len (itself key) low high in
    let others : ((q : List Value) → key_eq key q ≡ false → route_by b None q ≡ route_by a None q) = λ q h.
    (λ i. record { key = q; mask = mask-other q a (Some key) (suc n) (turned q key ∙ h) i; until = false }) in
    let here : route_by b None key ≡ joined_route mask false (route_by a None key) = λ i. record { key = key; mask = more i; until = false } in
    let new : (find key_cmp key (in_order key_cmp (entries_of (a ++ None ∷ []))) ≡ None → route_by b None key ≡ record { key = key; mask = mask; until = false }) = λ none.
    let absent : find key_cmp key (entries_of a) ≡ None =
    sym (ap (find key_cmp key) (trailing a)) ∙ sym (find-in_order key_cmp key_cmp_total key (entries_of (a ++ None ∷ []))) ∙ none in
    let is : mask_of key b ≡ mask = more ∙ ap (λ (m : Mask). union m mask) (no_stage key a absent) in
    (λ i. record { key = key; mask = is i; until = false }) in
    ap (said_routes key mask false) (routes-entries a None)
    ∙ said-put key a b None None mask false others here (in_order key_cmp (entries_of (a ++ None ∷ []))) (in_order_sorted (entries_of (a ++ None ∷ []))) new
    ∙ ap (map (λ (e : List Value × ℕ). route_by b None e.0)) (grown (a ++ None ∷ []) (b ++ None ∷ []) key (λ q.
    ap (find key_cmp q) (trailing b) ∙ found-append q a (replicate (suc n) (Some key))
    ∙ (λ i. found_or (find key_cmp q (sym (trailing a) i)) (runs_found q key n i))))
    ∙ sym (routes-entries b None)

-- the end of a key is said to it
pub said-until : (a : List Given) (key : List Value)
    → said_routes key (record { low = 0; high = 0 }) true (routes_by a None) ≡ routes_by a (Some key)
said-until a key =
    let none : Mask = record { low = 0; high = 0 } in
    let others : ((q : List Value) → key_eq key q ≡ false → route_by a (Some key) q ≡ route_by a None q) = λ q h.
    (λ i. record { key = q; mask = mask_of q a; until = (turned q key ∙ h) i }) in
    let here : route_by a (Some key) key ≡ joined_route none true (route_by a None key) = λ i.
    record { key = key; mask = record { low = sym (or_zero_r (bits_of key (take 128 a))) i; high = sym (or_zero_r (bits_of key (drop 128 a))) i }; until = itself key i } in
    let new : (find key_cmp key (in_order key_cmp (entries_of (a ++ None ∷ []))) ≡ None → route_by a (Some key) key ≡ record { key = key; mask = none; until = true }) = λ absent.
    let gone : find key_cmp key (entries_of a) ≡ None =
    sym (ap (find key_cmp key) (trailing a)) ∙ sym (find-in_order key_cmp key_cmp_total key (entries_of (a ++ None ∷ []))) ∙ absent in
    (λ i. record { key = key; mask = no_stage key a gone i; until = itself key i }) in
    ap (said_routes key none true) (routes-entries a None)
    ∙ said-put key a a None (Some key) none true others here (in_order key_cmp (entries_of (a ++ None ∷ []))) (in_order_sorted (entries_of (a ++ None ∷ []))) new
    ∙ ap (map (λ (e : List Value × ℕ). route_by a (Some key) e.0)) (grown (a ++ None ∷ []) (a ++ Some key ∷ []) key (λ q.
    found-append q a (Some key ∷ []) ∙ ap (λ (es : Entries). found_or (find key_cmp q es) (cond (key_eq q key) (Some 0) None)) (sym (trailing a))))
    ∙ sym (routes-entries a (Some key))

-- stages that are given no key say nothing
pub said-none : (a : List Given) (n : ℕ) → routes_by (a ++ replicate n None) None ≡ routes_by a None
said-none a n =
    let b : List Given = a ++ replicate n None in
    let same : entries_of (b ++ None ∷ []) ≡ entries_of (a ++ None ∷ []) = trailing b ∙ entries-append a (replicate n None)
    ∙ ap (λ (es : Entries). entries_of a ++ es) (no_entries n) ∙ append-nil (entries_of a) ∙ sym (trailing a) in
    routes-entries b None
    ∙ (λ i. map (λ (e : List Value × ℕ). record { key = e.0; mask = mask-other e.0 a None n refl i; until = false }) (in_order key_cmp (same i)))
    ∙ sym (routes-entries a None)
  where
    no_entries : (n : ℕ) → entries_of (replicate n None) ≡ []
    no_entries zero = refl
    no_entries (suc n) = no_entries n
