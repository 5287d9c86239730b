-- What lines give to a checked query is for the run of that query.
use Rattle.std.proofs.Common.{◌≡◌, ◌≤◌, ℕ, zero, suc, ◌+◌, ◌*◌, ◌-◌, ◌/◌, ◌%◌, ℤ, Bool, true, false, List, [], ◌∷◌, ◌++◌, map, length, take, drop, get_or, Option, Some, None, refl, ap, sym, subst, ◌∙◌, arith}
use Rattle.std.specs.Prelude.{cond, ◌&&◌, not, ◌==◌, nat_lt, replicate, is_some, All, option_and_then, if◌then◌else◌}
use Rattle.std.specs.List.{list_all, flat_map}
use Rattle.std.specs.Option.{option_map}
use Rattle.std.specs.Int.{bit_at}
use Rattle.std.specs.Ordering.{is_lt, is_eq}
use Rattle.std.specs.Cmp.{tied_itself}
use Rattle.std.specs.FinMap.Entries.{find, below_all, is_sorted}
use Rattle.std.specs.declared.cmp.Ordering.{Ordering}
use Rattle.std.specs.declared.cmp.Ordering.TheVariants.{Less, Equal, Greater}
use Rattle.std.proofs.lemmas.Bool.{and_parts, and_from, eqb-true, eq-eqb, ltb-true, ltb-false}
use Rattle.std.proofs.lemmas.List.{length-take, length-drop, length-append, get_or-take, get_or-drop}
use Rattle.std.proofs.lemmas.Nat.Bits.{bit_at-zero, bit_at_lowest, bit_at-suc, bit_at_above}
use Rattle.eql_values.specs.declared.value.Value.{Value}
use Rattle.eql_values.specs.declared.value.Kind.{Kind}
use Rattle.eql_values.specs.declared.item.Route.{Route}
use Rattle.eql_values.specs.declared.item.Item.{Item}
use Rattle.eql_values.specs.declared.reader.LineGot.TheVariants as got
use Rattle.eql_values.specs.Masks.{has_after, has_stage}
use Rattle.eql_values.specs.Ordered.{in_order}
use Rattle.eql_values.specs.Orders.{key_cmp, key_eq}
use Rattle.eql_values.specs.Totals.{key_cmp_total}
use Rattle.eql_values.proofs.Same.{key_same}
use Rattle.eql_laws.specs.Bounds.{HasStagesTo}
use Rattle.eql_laws.specs.Books.{completing}
use Rattle.eql_laws.specs.Fitting.{IsFor}
use Rattle.eql_lines.specs.declared.wanted.Fields.{Fields}
use Rattle.eql_lines.specs.declared.wanted.LineRead.{LineRead}
use Rattle.eql_lines.specs.declared.wanted.LineRead.TheVariants as read
use Rattle.eql_lines.specs.Reading.{line_read}
use Rattle.eql_lines.proofs.EventTimes.{read_in_time}
use Rattle.eql_query.specs.declared.expr.FieldRef.{FieldRef}
use Rattle.eql_query.specs.QueryTree.{TermTree, BodyTree, event, sequence}
use Rattle.eql_check.specs.Comparisons.{is_null}
use Rattle.eql_check.specs.Conditions.{all_items, as_list, own_count, key_count}
use Rattle.eql_check.specs.RulesKept.{KeepsRules}
use Rattle.eql_check.specs.Truth.{value_at}
use Rattle.eql_check.specs.Typing.{has_stages}
use Rattle.eql_stages.specs.Given.{Given, is_this, bits_of, mask_of, route_by, routes_by}
use Rattle.eql_stages.specs.Stages.{Stage, key_of, key_at, fits_item, stage_of, item_stages, stages_in, until_in}
use Rattle.eql_stages.specs.Planned.{Planned, wanted_of, got_of, routes_in, run_of}
use Rattle.eql_stages.specs.Laws.{ReadersFit}
use Rattle.eql_stages.proofs.Bits.{bits-lt}
use Rattle.eql_stages.specs.Standing.{Entries, entries_of, routes-entries, in_order_sorted, found_in_order, shown_routes, each_route, got_at, routes_stand}

-- ---- the stages of a mask

unset : (n : ℕ) → n ≡ 0 → (n == 1) ≡ false
unset n e = ap (λ (m : ℕ). m == 1) e

pub masks_to : (a : List Given) (key : List Value) → HasStagesTo (length a) (mask_of key a)
masks_to a key zero above to = absurd (omega arith)
masks_to a key (suc j) above to = by (nat_lt j 128) refl
  where
    by : (b : Bool) → nat_lt j 128 ≡ b
        → (if b then bit_at (bits_of key (take 128 a)) j == 1 else bit_at (bits_of key (drop 128 a)) (j - 128) == 1) ≡ false
    by true e =
        let under = ltb-true j 128 e in
        let long : length (take 128 a) ≤ j = omega (arith, length-take 128 a) in
        unset _ (bit_at_above (bits_of key (take 128 a)) (length (take 128 a)) j (bits-lt key (take 128 a)) long)
    by false e =
        let over = ltb-false j 128 e in
        let long : length (drop 128 a) ≤ j - 128 = omega (arith, length-drop 128 a) in
        unset _ (bit_at_above (bits_of key (drop 128 a)) (length (drop 128 a)) (j - 128) (bits-lt key (drop 128 a)) long)

lowest_of : (b : Bool) (n : ℕ) → ((if b then 1 else 0) + 2 * n) % 2 ≡ cond b 1 0
lowest_of true n = omega arith
lowest_of false n = omega arith

rest_of : (b : Bool) (n : ℕ) → ((if b then 1 else 0) + 2 * n) / 2 ≡ n
rest_of true n = omega arith
rest_of false n = omega arith

-- the bit of a stage is set where the stage is given the key
bit_is : (q : List Value) (a : List Given) (j : ℕ) → bit_at (bits_of q a) j ≡ cond (is_this q (get_or a j None)) 1 0
bit_is q [] j = bit_at-zero j
bit_is q (g ∷ a) zero = bit_at_lowest (bits_of q (g ∷ a)) ∙ lowest_of (is_this q g) (bits_of q a)
bit_is q (g ∷ a) (suc j) =
    bit_at-suc (bits_of q (g ∷ a)) j ∙ ap (λ (n : ℕ). bit_at n j) (rest_of (is_this q g) (bits_of q a)) ∙ bit_is q a j

set_is : (b : Bool) → (cond b 1 0 == 1) ≡ true → b ≡ true
set_is true h = refl
set_is false h = cc

at_stage : (a : List Given) (q : List Value) (j : ℕ) → has_after j (mask_of q a) ≡ true → is_this q (get_or a j None) ≡ true
at_stage a q j = by (nat_lt j 128) refl
  where
    by : (b : Bool) → nat_lt j 128 ≡ b
        → (if b then bit_at (bits_of q (take 128 a)) j == 1 else bit_at (bits_of q (drop 128 a)) (j - 128) == 1) ≡ true
        → is_this q (get_or a j None) ≡ true
    by true e h =
        ap (is_this q) (sym (get_or-take 128 a j None (ltb-true j 128 e)))
        ∙ set_is _ (ap (λ (n : ℕ). n == 1) (sym (bit_is q (take 128 a) j)) ∙ h)
    by false e h =
        let over = ltb-false j 128 e in
        let place : j ≡ 128 + (j - 128) = omega arith in
        ap (λ (k : ℕ). is_this q (get_or a k None)) place
        ∙ ap (is_this q) (sym (get_or-drop 128 a (j - 128) None))
        ∙ set_is _ (ap (λ (n : ℕ). n == 1) (sym (bit_is q (drop 128 a) (j - 128))) ∙ h)

-- ---- at most one key is at the last stage

equal_is : (x y : List Value) → key_eq x y ≡ true → x ≡ y
equal_is x y h = key_same x y (by (key_cmp x y) h)
  where
    by : (o : Ordering) → is_eq o ≡ true → o ≡ Equal
    by Less e = cc
    by Equal e = refl
    by Greater e = cc

one_key : (x y : List Value) (g : Given) → is_this x g ≡ true → is_this y g ≡ true → x ≡ y
one_key x y None h k = cc
one_key x y (Some key) h k = equal_is x key h ∙ sym (equal_is y key k)

module _ (a : List Given) (u : Given) (m : ℕ) (g : Given) (only : (q : List Value) → has_stage (mask_of q a) m ≡ true → is_this q g ≡ true) where
  -- where one key is at the stage, no other is
  none_else : (x : List Value) (es : Entries) → below_all key_cmp x es ≡ true → is_this x g ≡ true → completing m (shown_routes a u es) ≡ []
  none_else x [] below this = refl
  none_else x (e ∷ es) below this =
      by (has_stage (mask_of e.0 a) m) refl (none_else x es (and_parts (is_lt (key_cmp x e.0)) (below_all key_cmp x es) below).1 this)
    where
      by : (b : Bool) → has_stage (mask_of e.0 a) m ≡ b → completing m (shown_routes a u es) ≡ []
          → (if b then route_by a u e.0 ∷ completing m (shown_routes a u es) else completing m (shown_routes a u es)) ≡ []
      by false s rest = rest
      by true s rest =
          let same : x ≡ e.0 = one_key x e.0 g this (only e.0 s) in
          let less = (and_parts (is_lt (key_cmp x e.0)) (below_all key_cmp x es) below).0 in
          let tied : is_lt (key_cmp x e.0) ≡ false = ap (λ (k : List Value). is_lt (key_cmp x k)) (sym same) ∙ ap is_lt (tied_itself key_cmp_total x) in
          cc

  one_at_most : (es : Entries) → is_sorted key_cmp es ≡ true → length (completing m (shown_routes a u es)) ≤ 1
  one_at_most [] sorted = omega arith
  one_at_most (e ∷ es) sorted = by (has_stage (mask_of e.0 a) m) refl (one_at_most es (and_parts (below_all key_cmp e.0 es) (is_sorted key_cmp es) sorted).1)
    where
      by : (b : Bool) → has_stage (mask_of e.0 a) m ≡ b → length (completing m (shown_routes a u es)) ≤ 1
          → length (if b then route_by a u e.0 ∷ completing m (shown_routes a u es) else completing m (shown_routes a u es)) ≤ 1
      by false s rest = rest
      by true s rest =
          let none = ap length (none_else e.0 es (and_parts (below_all key_cmp e.0 es) (is_sorted key_cmp es) sorted).0 (only e.0 s)) in
          omega arith

completes_once : (a : List Given) (u : Given) → length (completing (length a) (routes_by a u)) ≤ 1
completes_once a u =
    let es : Entries = in_order key_cmp (entries_of (a ++ u ∷ [])) in
    subst (λ (l : List Route). length (completing (length a) l) ≤ 1) (sym (routes-entries a u))
    (one_at_most a u (length a) (get_or a (length a - 1) None) (last (length a)) es (in_order_sorted (entries_of (a ++ u ∷ []))))
  where
    last : (m : ℕ) (q : List Value) → has_stage (mask_of q a) m ≡ true → is_this q (get_or a (m - 1) None) ≡ true
    last zero q h = cc
    last (suc j) q h =
        let same : suc j - 1 ≡ j = omega arith in
        ap (λ (k : ℕ). is_this q (get_or a k None)) same ∙ at_stage a q j h

-- ---- keys have the number of values

abbrev AreLong : ℕ → List Given → Type 0
AreLong n [] = Unit {0}
AreLong n (g ∷ a) = ((key : List Value) → g ≡ Some key → length key ≡ n) × AreLong n a

long_found : (n : ℕ) (a : List Given) → AreLong n a → (q : List Value) → is_some (find key_cmp q (entries_of a)) ≡ true → length q ≡ n
long_found n [] long q h = cc
long_found n (None ∷ a) long q h = long_found n a long.1 q h
long_found n (Some key ∷ a) long q h = by (key_eq q key) refl (long_found n a long.1 q) h
  where
    by : (b : Bool) → key_eq q key ≡ b → (is_some (find key_cmp q (entries_of a)) ≡ true → length q ≡ n)
        → is_some (cond b (Some 0) (find key_cmp q (entries_of a))) ≡ true → length q ≡ n
    by true e rest k = ap length (equal_is q key e) ∙ long.0 key refl
    by false e rest k = rest k

long_append : (n : ℕ) (a b : List Given) → AreLong n a → AreLong n b → AreLong n (a ++ b)
long_append n [] b h k = k
long_append n (g ∷ a) b h k = (h.0, long_append n a b h.1 k)

module _ (fields : List (List ℕ × Kind)) (categories : List (List ℕ)) (slots : List Value) where
  key_long : (keys : List FieldRef) (key : List Value) → key_of fields categories slots keys ≡ Some key → length key ≡ length keys
  key_long [] key h = let same : [] ≡ key = cc in ap length (sym same)
  key_long (field ∷ keys) key h =
      by (is_null (value_at fields slots field.name) && not field.optional) (key_of fields categories slots keys) (key_long keys) h
    where
      by : (b : Bool) (g : Given) → ((rest : List Value) → g ≡ Some rest → length rest ≡ length keys)
          → (if b then None else option_map (λ (rest : List Value). value_at fields slots field.name ∷ rest) g) ≡ Some key → length key ≡ length (field ∷ keys)
      by true g rest e = cc
      by false None rest e = cc
      by false (Some others) rest e =
          let same : value_at fields slots field.name ∷ others ≡ key = cc in
          ap length (sym same) ∙ ap suc (rest others refl)

  stage_long : (stage : Stage) (key : List Value) → key_at fields categories slots stage ≡ Some key → length key ≡ length stage.keys
  stage_long stage key = by (fits_item fields categories slots stage.term)
    where
      by : (b : Bool) → (if b then key_of fields categories slots stage.keys else None) ≡ Some key → length key ≡ length stage.keys
      by true e = key_long stage.keys key e
      by false e = cc

  stages_long : (n : ℕ) (stages : List Stage) → list_all (λ (s : Stage). length s.keys == n) stages ≡ true → AreLong n (map (key_at fields categories slots) stages)
  stages_long n [] h = tt
  stages_long n (stage ∷ stages) h =
      let both = and_parts (length stage.keys == n) (list_all (λ (s : Stage). length s.keys == n) stages) h in
      (λ key e. stage_long stage key e ∙ eqb-true (length stage.keys) n both.0, stages_long n stages both.1)

  until_long : (n : ℕ) (until : Option Stage) → list_all (λ (s : Stage). length s.keys == n) (as_list until) ≡ true
      → AreLong n (option_and_then (key_at fields categories slots) until ∷ [])
  until_long n None h = (λ key e. cc, tt)
  until_long n (Some stage) h =
      let both = and_parts (length stage.keys == n) true h in
      (λ key e. stage_long stage key e ∙ eqb-true (length stage.keys) n both.0, tt)

pub all-append : {A : Type 0} (p : A → Bool) (a b : List A) → list_all p (a ++ b) ≡ true → (list_all p a ≡ true) × (list_all p b ≡ true)
all-append p [] b h = (refl, h)
all-append p (x ∷ a) b h =
    let both = and_parts (p x) (list_all p (a ++ b)) h in
    let rest = all-append p a b both.1 in
    (and_from (p x) (list_all p a) both.0 rest.0, rest.1)

pub append-all : {A : Type 0} (p : A → Bool) (a b : List A) → list_all p a ≡ true → list_all p b ≡ true → list_all p (a ++ b) ≡ true
append-all p [] b h k = k
append-all p (x ∷ a) b h k =
    let both = and_parts (p x) (list_all p a) h in
    and_from (p x) (list_all p (a ++ b)) both.0 (append-all p a b both.1 k)

all-replicate : {A : Type 0} (p : A → Bool) (n : ℕ) (x : A) → p x ≡ true → list_all p (replicate n x) ≡ true
all-replicate p zero x h = refl
all-replicate p (suc n) x h = and_from (p x) (list_all p (replicate n x)) h (all-replicate p n x h)

one_long : (by : List FieldRef) (n : ℕ) (term : TermTree) → (length term.by == n) ≡ true → (length (stage_of by term).keys == length by + n) ≡ true
one_long by n term h =
    let own = eqb-true (length term.by) n h in
    eq-eqb (length (by ++ term.by)) (length by + n) (length-append by term.by ∙ ap (λ (k : ℕ). length by + k) own)

items_long : (by : List FieldRef) (n : ℕ) (items : List TermTree) → list_all (λ (term : TermTree). length term.by == n) items ≡ true
    → list_all (λ (s : Stage). length s.keys == length by + n) (flat_map (item_stages by) items) ≡ true
items_long by n [] h = refl
items_long by n (term ∷ items) h =
    let both = and_parts (length term.by == n) (list_all (λ (t : TermTree). length t.by == n) items) h in
    append-all (λ (s : Stage). length s.keys == length by + n) (item_stages by term) (flat_map (item_stages by) items)
    (all-replicate (λ (s : Stage). length s.keys == length by + n) _ (stage_of by term) (one_long by n term both.0))
    (items_long by n items both.1)

end_long : (by : List FieldRef) (n : ℕ) (until : Option TermTree) → list_all (λ (term : TermTree). length term.by == n) (as_list until) ≡ true
    → list_all (λ (s : Stage). length s.keys == length by + n) (as_list (option_map (stage_of by) until)) ≡ true
end_long by n None h = refl
end_long by n (Some term) h =
    let both = and_parts (length term.by == n) true h in
    and_from (length (stage_of by term).keys == length by + n) true (one_long by n term both.0) refl

-- each stage, and the item that ends sequences, has as many key fields as the query's keys have
pub stages_have : (body : BodyTree) → list_all (λ (term : TermTree). length term.by == own_count (all_items body)) (all_items body) ≡ true
    → has_stages body ≡ true
    → (list_all (λ (s : Stage). length s.keys == key_count body) (stages_in body) ≡ true)
    × (list_all (λ (s : Stage). length s.keys == key_count body) (as_list (until_in body)) ≡ true)
stages_have (event term) same some = (refl, refl)
stages_have (sequence by span [] until) same some = absurd (cc)
stages_have (sequence by span (term ∷ items) until) same some =
    let parts = all-append (λ (t : TermTree). length t.by == length term.by) (term ∷ items) (as_list until) same in
    (items_long by (length term.by) (term ∷ items) parts.0, end_long by (length term.by) until parts.1)

-- ---- what lines give

as_many : {A B : Type 0} (f : A → B) (xs : List A) → length (map f xs) ≡ length xs
as_many f [] = refl
as_many f (x ∷ xs) = ap suc (as_many f xs)

fits_run : (planned : Planned) (slack : ℤ) → KeepsRules planned.query planned.fields → (f : Fields) (item : Item) → item.routes ≡ routes_in planned f
    → IsFor (run_of planned slack) item
fits_run planned slack keeps f item is =
    let body = planned.query.body in
    let a : List Given = map (key_at planned.fields f.categories f.slots) (stages_in body) in
    let u : Given = option_and_then (key_at planned.fields f.categories f.slots) (until_in body) in
    let es : Entries = in_order key_cmp (entries_of (a ++ u ∷ [])) in
    let count : length a ≡ length (stages_in body) = as_many (key_at planned.fields f.categories f.slots) (stages_in body) in
    let are : shown_routes a u es ≡ item.routes = sym (routes-entries a u) ∙ sym is in
    let have = stages_have body keeps.checked.as_many_keys keeps.checked.stages in
    let long : AreLong (key_count body) (a ++ u ∷ []) =
    long_append (key_count body) a (u ∷ []) (stages_long planned.fields f.categories f.slots (key_count body) (stages_in body) have.0)
    (until_long planned.fields f.categories f.slots (key_count body) (until_in body) have.1) in
    record {
      masks = subst (All (λ (r : Route). HasStagesTo (length (stages_in body)) r.mask)) are
          (each_route a u (λ (r : Route). HasStagesTo (length (stages_in body)) r.mask) es
          (λ q h. subst (λ (m : ℕ). HasStagesTo m (mask_of q a)) count (masks_to a q)));
      keys = subst (All (λ (r : Route). length r.key ≡ key_count body)) are
          (each_route a u (λ (r : Route). length r.key ≡ key_count body) es
          (λ q h. long_found (key_count body) (a ++ u ∷ []) long q (ap is_some (sym (found_in_order q (entries_of (a ++ u ∷ [])))) ∙ h)));
      once = subst (λ (l : List Route). length (completing (length (stages_in body)) l) ≤ 1) (sym is)
          (subst (λ (m : ℕ). length (completing m (routes_by a u)) ≤ 1) count (completes_once a u));
    }

got_for : (planned : Planned) (slack : ℤ) → KeepsRules planned.query planned.fields → (shard line : ℕ) (r : LineRead) (item : Item)
    → got_of (routes_in planned) shard line r ≡ got.Item item → IsFor (run_of planned slack) item
got_for planned slack keeps shard line read.Blank item is = cc
got_for planned slack keeps shard line (read.Bad reason) item is = cc
got_for planned slack keeps shard line (read.Event f) item is =
    let same : ◌≡◌ {A = Item} (record { order = record { ts = f.ts; tie = f.tie; shard = shard; line = line; at = 0 }; routes = routes_in planned f }) item = cc in
    fits_run planned slack keeps f item (ap (λ (i : Item). i.routes) (sym same))

pub readers_fit : ReadersFit
readers_fit planned slack keeps = record {
  reading = λ shard line bytes item is.
      got_at (routes_in planned) (λ f. routes_stand (map (key_at planned.fields f.categories f.slots) (stages_in planned.query.body)) (option_and_then (key_at planned.fields f.categories f.slots) (until_in planned.query.body)))
      shard line (line_read (wanted_of planned) bytes) (read_in_time (wanted_of planned) bytes) item is;
  each = λ shard line bytes item is. got_for planned slack keeps shard line (line_read (wanted_of planned) bytes) item is;
}
