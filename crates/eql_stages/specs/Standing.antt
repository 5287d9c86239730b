-- Routes by what stages are given stand in order, and each says something. The reader of a plan cites these proofs.
use Rattle.std.proofs.Common.{◌≡◌, ◌<◌, ℕ, ◌+◌, ◌*◌, Bool, true, false, T, List, [], ◌∷◌, ◌++◌, map, length, take, drop, Option, Some, None, refl, ap, sym, subst, ◌∙◌, arith}
use Rattle.std.specs.Prelude.{cond, not, ◌&&◌, ◌||◌, ◌==◌, nat_lt, is_some, All}
use Rattle.std.specs.List.{list_all}
use Rattle.std.specs.Ordering.{is_lt, is_eq}
use Rattle.std.specs.FinMap.Entries.{find, below_all, is_sorted}
use Rattle.std.proofs.lemmas.Bool.{and_from, eqb-true, lt-ltb}
use Rattle.std.proofs.lemmas.List.{take-append-drop}
use Rattle.std.proofs.lemmas.List.Elements.{All-nil, All-cons}
use Rattle.eql_values.specs.declared.value.Value.{Value}
use Rattle.eql_values.specs.declared.item.Route.{Route}
use Rattle.eql_values.specs.declared.item.Item.{Item}
use Rattle.eql_values.specs.declared.reader.LineGot.TheVariants as got
use Rattle.eql_values.specs.declared.cut.Reason.TheVariants.{Long}
use Rattle.eql_values.specs.Orders.{key_cmp, key_eq}
use Rattle.eql_values.specs.Ordered.{in_order, found_or}
use Rattle.eql_values.specs.Reading.{IsReadAt, is_blank, too_long}
use Rattle.eql_values.specs.Routes.{RoutesStand, says_something}
use Rattle.eql_lines.specs.declared.wanted.Fields.{Fields}
use Rattle.eql_lines.specs.declared.wanted.LineRead.{LineRead}
use Rattle.eql_lines.specs.declared.wanted.LineRead.TheVariants as read
use Rattle.eql_lines.specs.Reading.{line_read, json_read, IsEventInTime}
use Rattle.eql_lines.proofs.EventTimes.{read_in_time}
use Rattle.eql_text.specs.Json.{json_of}
use Rattle.eql_stages.specs.Given.{Given, is_this, bits_of, route_by, routes_by}
use Rattle.eql_stages.specs.Planned.{got_of}
use Rattle.eql_stages.specs.Matching.{Reader, given_by, until_by, routes_for, reads_by}
use Rattle.std.specs.List.{filter_map}
use Rattle.std.specs.Cmp.{tied_itself}
use Rattle.std.proofs.lemmas.List.{map-append}
use Rattle.std.proofs.lemmas.List.Elements.{filter_map-append}
use Rattle.eql_values.specs.Totals.{key_cmp_total}
use Rattle.eql_values.proofs.InOrder.{find-append, find-in_order, in_order-sorted}

-- keys as entries
abbrev pub Entries : Type 0
Entries = List (List Value × ℕ)

abbrev pub entries_of : List Given → Entries
entries_of given = map (λ (key : List Value). (key, 0)) (filter_map (λ (one : Given). one) given)

pub entries-append : (xs ys : List Given) → entries_of (xs ++ ys) ≡ entries_of xs ++ entries_of ys
entries-append xs ys =
    ap (map (λ (key : List Value). (key, 0))) (filter_map-append (λ (one : Given). one) xs ys)
    ∙ map-append (λ (key : List Value). (key, 0)) (filter_map (λ (one : Given). one) xs) (filter_map (λ (one : Given). one) ys)

pub found-append : (q : List Value) (xs ys : List Given)
    → find key_cmp q (entries_of (xs ++ ys)) ≡ found_or (find key_cmp q (entries_of xs)) (find key_cmp q (entries_of ys))
found-append q xs ys =
    ap (find key_cmp q) (entries-append xs ys) ∙ find-append key_cmp q (entries_of xs) (entries_of ys)

map-map : {A B C : Type 0} (f : B → C) (g : A → B) (xs : List A) → map f (map g xs) ≡ map (λ (x : A). f (g x)) xs
map-map f g [] = refl
map-map f g (x ∷ xs) = ap (λ l. f (g x) ∷ l) (map-map f g xs)

pub routes-entries : (a : List Given) (u : Given)
    → routes_by a u ≡ map (λ (e : List Value × ℕ). route_by a u e.0) (in_order key_cmp (entries_of (a ++ u ∷ [])))
routes-entries a u = map-map (route_by a u) (λ (e : List Value × ℕ). e.0) (in_order key_cmp (entries_of (a ++ u ∷ [])))

holds_true : (b : Bool) → T b → b ≡ true
holds_true true h = refl
holds_true false h = absurd h

pub in_order_sorted : (es : Entries) → is_sorted key_cmp (in_order key_cmp es) ≡ true
in_order_sorted es = holds_true _ (in_order-sorted key_cmp key_cmp_total es)

-- putting keys in order changes no look-up
pub found_in_order : (q : List Value) (es : Entries) → find key_cmp q (in_order key_cmp es) ≡ find key_cmp q es
found_in_order q es = find-in_order key_cmp key_cmp_total q es

pub itself : (key : List Value) → key_eq key key ≡ true
itself key = ap is_eq (tied_itself key_cmp_total key)

-- routes by entries
abbrev pub shown_routes : List Given → Given → Entries → List Route
shown_routes a u es = map (λ (e : List Value × ℕ). route_by a u e.0) es

keyed_below : (a : List Given) (u : Given) (x : List Value) (es : Entries)
    → below_all key_cmp x (map (λ (r : Route). (r.key, r)) (shown_routes a u es)) ≡ below_all key_cmp x es
keyed_below a u x [] = refl
keyed_below a u x (e ∷ es) = ap (λ (b : Bool). is_lt (key_cmp x e.0) && b) (keyed_below a u x es)

keyed : (a : List Given) (u : Given) (es : Entries)
    → is_sorted key_cmp (map (λ (r : Route). (r.key, r)) (shown_routes a u es)) ≡ is_sorted key_cmp es
keyed a u [] = refl
keyed a u (e ∷ es) = λ i. keyed_below a u e.0 es i && keyed a u es i

-- what holds of each key that has an entry holds of each route
still : (b : Bool) (o : Option ℕ) (n : ℕ) → is_some o ≡ true → is_some (cond b (Some n) o) ≡ true
still true o n h = refl
still false o n h = h

pub each_route : (a : List Given) (u : Given) (P : Route → Type 0) (es : Entries)
    → ((q : List Value) → is_some (find key_cmp q es) ≡ true → P (route_by a u q)) → All P (shown_routes a u es)
each_route a u P [] each = All-nil P
each_route a u P (e ∷ es) each =
    All-cons P (route_by a u e.0) (shown_routes a u es)
    (each e.0 (ap (λ (b : Bool). is_some (cond b (Some e.1) (find key_cmp e.0 es))) (itself e.0)))
    (each_route a u P es (λ q h. each q (still (key_eq q e.0) (find key_cmp q es) e.1 h)))

each_says : (a : List Given) (u : Given) (es : Entries)
    → ((q : List Value) → is_some (find key_cmp q es) ≡ true → says_something (route_by a u q) ≡ true)
    → list_all says_something (shown_routes a u es) ≡ true
each_says a u [] each = refl
each_says a u (e ∷ es) each =
    and_from (says_something (route_by a u e.0)) (list_all says_something (shown_routes a u es))
    (each e.0 (ap (λ (b : Bool). is_some (cond b (Some e.1) (find key_cmp e.0 es))) (itself e.0)))
    (each_says a u es (λ q h. each q (still (key_eq q e.0) (find key_cmp q es) e.1 h)))

-- a key with no bit is given to no stage
odd : (n : ℕ) → 1 + 2 * n ≡ 0 → ⊥
odd n h = absurd (omega arith)

halved : (n : ℕ) → 0 + 2 * n ≡ 0 → n ≡ 0
halved n h = omega arith

no_bits : (q : List Value) (a : List Given) → bits_of q a ≡ 0 → find key_cmp q (entries_of a) ≡ None
no_bits q [] h = refl
no_bits q (None ∷ a) h = no_bits q a (halved (bits_of q a) h)
no_bits q (Some other ∷ a) h = by (key_eq q other) (no_bits q a) h
  where
    by : (b : Bool) → (bits_of q a ≡ 0 → find key_cmp q (entries_of a) ≡ None) → cond b 1 0 + 2 * bits_of q a ≡ 0
        → cond b (Some 0) (find key_cmp q (entries_of a)) ≡ None
    by true rest e = absurd (odd (bits_of q a) e)
    by false rest e = rest (halved (bits_of q a) e)

both_none : (o p : Option ℕ) → o ≡ None → p ≡ None → found_or o p ≡ None
both_none o p h k = ap (λ (x : Option ℕ). found_or x p) h ∙ k

no_mask : (q : List Value) (a : List Given) → bits_of q (take 128 a) ≡ 0 → bits_of q (drop 128 a) ≡ 0
    → find key_cmp q (entries_of a) ≡ None
no_mask q a low high =
    ap (λ (g : List Given). find key_cmp q (entries_of g)) (sym (take-append-drop 128 a))
    ∙ found-append q (take 128 a) (drop 128 a)
    ∙ both_none (find key_cmp q (entries_of (take 128 a))) (find key_cmp q (entries_of (drop 128 a))) (no_bits q (take 128 a) low) (no_bits q (drop 128 a) high)

no_end : (q : List Value) (u : Given) → is_this q u ≡ false → find key_cmp q (entries_of (u ∷ [])) ≡ None
no_end q None h = refl
no_end q (Some other) h = ap (λ (b : Bool). cond b (Some 0) None) h

not_there : (o : Option ℕ) → o ≡ None → is_some o ≡ true → ⊥
not_there o h k = absurd (cc)

says : (a : List Given) (u : Given) (q : List Value) → is_some (find key_cmp q (entries_of (a ++ u ∷ []))) ≡ true
    → says_something (route_by a u q) ≡ true
says a u q there = by (is_this q u) (bits_of q (take 128 a) == 0) (bits_of q (drop 128 a) == 0) refl refl refl
  where
    by : (e l h : Bool) → is_this q u ≡ e → (bits_of q (take 128 a) == 0) ≡ l → (bits_of q (drop 128 a) == 0) ≡ h
        → (not (l && h) || e) ≡ true
    by true true true p s t = refl
    by true true false p s t = refl
    by true false true p s t = refl
    by true false false p s t = refl
    by false false true p s t = refl
    by false false false p s t = refl
    by false true false p s t = refl
    by false true true p s t =
        absurd (not_there (find key_cmp q (entries_of (a ++ u ∷ [])))
        (found-append q a (u ∷ []) ∙ both_none (find key_cmp q (entries_of a)) (find key_cmp q (entries_of (u ∷ [])))
        (no_mask q a (eqb-true (bits_of q (take 128 a)) 0 s) (eqb-true (bits_of q (drop 128 a)) 0 t)) (no_end q u p))
        there)

pub routes_stand : (a : List Given) (u : Given) → RoutesStand (routes_by a u)
routes_stand a u =
    let es : Entries = in_order key_cmp (entries_of (a ++ u ∷ [])) in
    let ordered : is_sorted key_cmp (map (λ (r : Route). (r.key, r)) (shown_routes a u es)) ≡ true = keyed a u es ∙ in_order_sorted (entries_of (a ++ u ∷ [])) in
    let each : list_all says_something (shown_routes a u es) ≡ true =
    each_says a u es (λ q h. says a u q (ap is_some (sym (found_in_order q (entries_of (a ++ u ∷ [])))) ∙ h)) in
    subst RoutesStand (sym (routes-entries a u)) (ordered, each)

-- what is said of an event is said of a line that is one
pub got_at : (said : Fields → List Route) → ((f : Fields) → RoutesStand (said f)) → (shard line : ℕ) (r : LineRead) → IsEventInTime r
    → (item : Item) → got_of said shard line r ≡ got.Item item → IsReadAt shard line item
got_at said stand shard line read.Blank time item is = cc
got_at said stand shard line (read.Bad reason) time item is = cc
got_at said stand shard line (read.Event f) time item is =
    let same : ◌≡◌ {A = Item} (record { order = record { ts = f.ts; tie = f.tie; shard = shard; line = line; at = 0 }; routes = said f }) item = cc in
    subst (IsReadAt shard line) same (record { shard_is = refl; line_is = refl; at_is = refl; in_range = time; routes_stand = stand f })

pub reads_at : (reader : Reader) (shard line : ℕ) (bytes : List ℕ) (event : Item) → reads_by reader shard line bytes ≡ got.Item event
    → IsReadAt shard line event
reads_at reader shard line bytes event is =
    got_at (routes_for reader.matchers reader.until) (λ f. routes_stand (given_by f.categories f.slots reader.matchers) (until_by f.categories f.slots reader.until)) shard line (line_read reader.wanted bytes) (read_in_time reader.wanted bytes) event is

pub reads_long : (reader : Reader) (shard line : ℕ) (bytes : List ℕ) → 1048576 < length bytes → reads_by reader shard line bytes ≡ too_long bytes
reads_long reader shard line bytes more =
    by (is_blank bytes) (nat_lt 1048576 (length bytes)) (lt-ltb 1048576 (length bytes) more)
  where
    by : (b l : Bool) → l ≡ true → got_of (routes_for reader.matchers reader.until) shard line
        (cond b read.Blank (cond l (read.Bad Long) (json_read reader.wanted (json_of bytes))))
        ≡ cond b got.Blank (got.Bad Long)
    by true l h = refl
    by false true h = refl
    by false false h = cc
