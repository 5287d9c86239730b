-- The events of a cut at the places of their lines.
use Rattle.std.proofs.Common.{◌≡◌, ℕ, zero, suc, ◌+◌, ◌<◌, ◌≤◌, Bool, true, false, cond, List, [], ◌∷◌, ◌++◌, length, map, take, drop, get_or, set, refl, sym, ap, ◌∙◌, arith, add-one}
use Rattle.std.specs.Prelude.{◌==◌, All, Contains}
use Rattle.std.specs.List.{AllPairs}
use Rattle.std.specs.List.Sorted.{IsStrictlyIncreasing, IsNonDecreasingBy, IsPartitionPoint}
use Rattle.std.specs.Ordering.{ordering_then, ordering_index, nat_cmp, int_cmp}
use Rattle.std.specs.Cmp.{tied_itself}
use Rattle.std.specs.declared.cmp.Ordering.{Ordering}
use Rattle.std.specs.declared.cmp.Ordering.TheVariants.{Less, Equal, Greater}
use borrow.Author.Tests.{tests}
use mathlib.Core.Logic.{⊎_elim}
use Rattle.std.proofs.lemmas.Bool.{eqb-true, eq-eqb, cases_lt}
use Rattle.std.proofs.lemmas.Cmp.{nat_cmp_total}
use Rattle.std.proofs.lemmas.List.{length-map, append-nil, take_all}
use Rattle.std.proofs.lemmas.List.Elements.{All-head, All-tail, All-map}
use Rattle.std.proofs.lemmas.List.Kept.{AllPairs-from_increasing, AllPairs-cons}
use Rattle.eql_values.specs.declared.order.OrderKey.{OrderKey}
use Rattle.eql_values.specs.declared.item.Item.{Item}
use Rattle.eql_values.specs.declared.cut.LaneCut.{LaneCut}
use Rattle.eql_values.specs.Accepted.{placed_at}
use Rattle.eql_values.specs.Ascending.{Ascend, AllAreAfter}
use Rattle.eql_values.specs.OrderKeys.{order_cmp, tie_cmp}
use Rattle.eql_lane.specs.Noting.{line_place, placed_lines, placed_item, place_noted, item_noted, LinesAscend, IsUnplaced}
use Rattle.eql_lane.specs.Starts.{MayBegin, MayLift}
use Rattle.eql_lane.proofs.NoteLemmas.{above, rest_rises}

-- ---- a look-up among lines that ascend
lines_above : (p : ℕ × ℕ) (places : List (ℕ × ℕ)) → LinesAscend (p ∷ places) → All (λ (q : ℕ × ℕ). p.0 < q.0) places
lines_above p places up k d lt = up 0 (suc k) d (omega arith) (omega (arith, lt))

others_up : (p : ℕ × ℕ) (places : List (ℕ × ℕ)) → LinesAscend (p ∷ places) → LinesAscend places
others_up p places up i j d less lt = up (suc i) (suc j) d (omega (arith, less)) (omega (arith, lt))

less_not : (m n : ℕ) → m < n → (m == n) ≡ false
less_not m n lt = grind arith

apart_not : (m n : ℕ) → (m ≡ n → ⊥) → (m == n) ≡ false
apart_not m n never = grind arith

found_at : (places : List (ℕ × ℕ)) (line : ℕ) → LinesAscend places → (i : ℕ) (d : ℕ × ℕ) → i < length places → (get_or places i d).0 ≡ line → (get_or places i d).1 ≡ place_noted places line
found_at [] line up i d lt is = absurd (omega (arith, lt))
found_at (p ∷ places) line up zero d lt is = sym (ap (λ (b : Bool). cond b p.1 (place_noted places line)) (eq-eqb p.0 line is))
found_at (p ∷ places) line up (suc i) d lt is =
    let more : p.0 < (get_or places i d).0 = lines_above p places up i d (omega (arith, lt)) in
    found_at places line (others_up p places up) i d (omega (arith, lt)) is
    ∙ sym (ap (λ (b : Bool). cond b p.1 (place_noted places line)) (less_not p.0 line (omega (arith, is, more))))

none_at : (places : List (ℕ × ℕ)) (line : ℕ) → All (λ (p : ℕ × ℕ). p.0 ≡ line → ⊥) places → place_noted places line ≡ 0
none_at [] line none = refl
none_at (p ∷ places) line none =
    ap (λ (b : Bool). cond b p.1 (place_noted places line)) (apart_not p.0 line (All-head (λ (q : ℕ × ℕ). q.0 ≡ line → ⊥) p places none))
    ∙ none_at places line (All-tail (λ (q : ℕ × ℕ). q.0 ≡ line → ⊥) p places none)

lines_rise : (places : List (ℕ × ℕ)) → LinesAscend places → (i j : ℕ) (d : ℕ × ℕ) → i ≤ j → j < length places → (get_or places i d).0 ≤ (get_or places j d).0
lines_rise [] up i j d le lt = absurd (omega (arith, lt))
lines_rise (p ∷ places) up zero zero d le lt = omega arith
lines_rise (p ∷ places) up zero (suc j) d le lt = let more : p.0 < (get_or places j d).0 = lines_above p places up j d (omega (arith, lt)) in omega (arith, more)
lines_rise (p ∷ places) up (suc i) zero d le lt = absurd (omega (arith, le))
lines_rise (p ∷ places) up (suc i) (suc j) d le lt = lines_rise places (others_up p places up) i j d (omega (arith, le)) (omega (arith, lt))

higher : (a b line : ℕ) → a ≤ b → ordering_index (nat_cmp a line) ≤ ordering_index (nat_cmp b line)
higher a b line le = grind (arith, tests)

less_apart : (a line : ℕ) → nat_cmp a line ≡ Less → a ≡ line → ⊥
less_apart a line less is = let tied : nat_cmp a line ≡ Equal = ap (nat_cmp a) (sym is) ∙ tied_itself nat_cmp_total a in cc

more_apart : (a line : ℕ) → nat_cmp a line ≡ Greater → a ≡ line → ⊥
more_apart a line more is = let tied : nat_cmp a line ≡ Equal = ap (nat_cmp a) (sym is) ∙ tied_itself nat_cmp_total a in cc

nat_same : (m n : ℕ) → nat_cmp m n ≡ Equal → m ≡ n
nat_same m n is = grind arith

-- what a binary search returns
pub searched_none : (places : List (ℕ × ℕ)) (line i : ℕ) → LinesAscend places
    → (IsNonDecreasingBy (λ (y : ℕ × ℕ). ordering_index (nat_cmp y.0 line)) places → IsPartitionPoint (λ (y : ℕ × ℕ). nat_cmp y.0 line ≡ Less) (λ (y : ℕ × ℕ). nat_cmp y.0 line ≡ Greater) places i)
    → place_noted places line ≡ 0
searched_none places line i up parts =
    let parted = parts (λ a b d le lt. higher (get_or places a d).0 (get_or places b d).0 line (lines_rise places up a b d le lt)) in
    none_at places line
    (λ k d lt. ⊎_elim (λ (below : k < i). less_apart (get_or places k d).0 line (parted.0 k d (omega arith) below))
    (λ (from : i ≤ k). more_apart (get_or places k d).0 line (parted.1 k d from lt)) (cases_lt k i))

pub searched_at : (places : List (ℕ × ℕ)) (line : ℕ) → LinesAscend places → (i : ℕ) (d : ℕ × ℕ) → i < length places → nat_cmp (get_or places i d).0 line ≡ Equal
    → (get_or places i d).1 ≡ place_noted places line
searched_at places line up i d lt is = found_at places line up i d lt (nat_same (get_or places i d).0 line is)

-- ---- the places that were noted
pub placed_ascend : (first wanted : List ℕ) → IsStrictlyIncreasing wanted → LinesAscend (placed_lines first wanted)
placed_ascend first wanted rises = by_pairs wanted (AllPairs-from_increasing wanted rises)
  where
    by_pairs : (ns : List ℕ) → AllPairs (λ (a b : ℕ). a < b) ns → LinesAscend (placed_lines first ns)
    by_pairs [] up = λ i j d less lt. absurd (omega (arith, lt))
    by_pairs (n ∷ ns) up =
        AllPairs-cons (λ (p q : ℕ × ℕ). p.0 < q.0) (n, line_place first n) (placed_lines first ns)
        (All-map (λ (q : ℕ × ℕ). n < q.0) (λ (m : ℕ). (m, line_place first m)) ns (above n ns up)) (by_pairs ns (rest_rises n ns up))

among_rest : (n : ℕ) (ns : List ℕ) (line : ℕ) → (n == line) ≡ false → Contains (n ∷ ns) line → Contains ns line
among_rest n ns line other (zero, lt, is) = let e = sym (eq-eqb n line is) ∙ other in cc
among_rest n ns line other (suc k, lt, is) = (k, omega (arith, lt), is)

noted_place : (first wanted : List ℕ) (line : ℕ) → Contains wanted line → place_noted (placed_lines first wanted) line ≡ line_place first line
noted_place first [] line (k, lt, is) = absurd (omega (arith, lt))
noted_place first (n ∷ ns) line there = by (n == line) refl (noted_place first ns line)
  where
    by : (b : Bool) → (n == line) ≡ b → (Contains ns line → place_noted (placed_lines first ns) line ≡ line_place first line) → place_noted (placed_lines first (n ∷ ns)) line ≡ line_place first line
    by true same later = ap (λ (b : Bool). cond b (line_place first n) (place_noted (placed_lines first ns) line)) same ∙ ap (line_place first) (eqb-true n line same)
    by false other later = ap (λ (b : Bool). cond b (line_place first n) (place_noted (placed_lines first ns) line)) other ∙ later (among_rest n ns line other there)

pub noted_items : (first wanted : List ℕ) (items : List Item) → All (λ (item : Item). Contains wanted item.order.line) items → map (item_noted (placed_lines first wanted)) items ≡ map (placed_item first) items
noted_items first wanted [] named = refl
noted_items first wanted (item ∷ items) named =
    λ i. placed_at (noted_place first wanted item.order.line (All-head (λ (x : Item). Contains wanted x.order.line) item items named) i) item ∷ noted_items first wanted items (All-tail (λ (x : Item). Contains wanted x.order.line) item items named) i

-- ---- events that had no places stand in order with any
then_alike : (o p q : Ordering) → (o ≡ Equal → p ≡ q) → ordering_then o p ≡ ordering_then o q
then_alike Less p q same = refl
then_alike Equal p q same = same refl
then_alike Greater p q same = refl

module _ (first : List ℕ) where
  abbrev order_of : OrderKey → OrderKey
  order_of o = record { ts = o.ts; tie = o.tie; shard = o.shard; line = o.line; at = line_place first o.line }

  places_tie : (a b : OrderKey) → a.at ≡ 0 → b.at ≡ 0 → nat_cmp a.line b.line ≡ Equal → nat_cmp (line_place first a.line) (line_place first b.line) ≡ nat_cmp a.at b.at
  places_tie a b az bz lines =
      (λ i. nat_cmp (line_place first (nat_same a.line b.line lines i)) (line_place first b.line)) ∙ tied_itself nat_cmp_total (line_place first b.line)
      ∙ sym (λ i. nat_cmp (az i) (bz i))

  order_alike : (a b : OrderKey) → a.at ≡ 0 → b.at ≡ 0 → order_cmp (order_of a) (order_of b) ≡ order_cmp a b
  order_alike a b az bz =
      then_alike (int_cmp a.ts b.ts) _ _ (λ ts.
      then_alike (tie_cmp a.tie b.tie) _ _ (λ tie.
      then_alike (nat_cmp a.shard b.shard) _ _ (λ shards.
      then_alike (nat_cmp a.line b.line) _ _ (λ lines. places_tie a b az bz lines))))

  after_up : (o : OrderKey) (items : List Item) → o.at ≡ 0 → IsUnplaced items → AllAreAfter o items → AllAreAfter (order_of o) (map (placed_item first) items)
  after_up o [] oz none up = tt
  after_up o (x ∷ items) oz none up = (
    order_alike o x.order oz (All-head (λ (i : Item). i.order.at ≡ 0) x items none) ∙ up.0,
    after_up o items oz (All-tail (λ (i : Item). i.order.at ≡ 0) x items none) up.1,
  )

  items_up : (items : List Item) → IsUnplaced items → Ascend items → Ascend (map (placed_item first) items)
  items_up [] none up = tt
  items_up (x ∷ items) none up =
      let rest = All-tail (λ (i : Item). i.order.at ≡ 0) x items none in
      (up.0, after_up x.order items (All-head (λ (i : Item). i.order.at ≡ 0) x items none) rest up.1, items_up items rest up.2)

  -- so a lane may begin with them
  pub may_begin : (cut : LaneCut) (wanted : List ℕ) → MayLift cut wanted → MayBegin (record cut { items = map (placed_item first) cut.items })
  may_begin cut wanted may = record {
    ascending = items_up cut.items may.unplaced may.begin.ascending;
    lines_to = All-map (λ (item : Item). item.order.line ≤ cut.counts.lines) (placed_item first) cut.items may.begin.lines_to;
    few = let a = length-map cut.items (placed_item first) in let b = may.begin.few in omega (arith, a, b);
    best = may.begin.best;
    counts = may.begin.counts;
    lines = may.begin.lines;
    bytes = may.begin.bytes;
  }

-- ---- a list changed from its front on
module _ {A : Type 0} (f : A → A) where
  set_here : (xs : List A) (i : ℕ) (d : A) → i < length xs → set (map f (take i xs) ++ drop i xs) i (f (get_or (map f (take i xs) ++ drop i xs) i d)) ≡ map f (take (suc i) xs) ++ drop (suc i) xs
  set_here [] i d lt = absurd (omega (arith, lt))
  set_here (x ∷ xs) zero d lt = refl
  set_here (x ∷ xs) (suc i) d lt = ap (λ (l : List A). f x ∷ l) (set_here xs i d (omega (arith, lt)))

  pub set_next : (xs ys : List A) (i : ℕ) (d v : A) → i < length xs → ys ≡ map f (take i xs) ++ drop i xs → v ≡ f (get_or ys i d) → set ys i v ≡ map f (take (i + 1) xs) ++ drop (i + 1) xs
  set_next xs ys i d v lt e is =
      (λ k. set (e k) i ((is ∙ ap (λ (l : List A). f (get_or l i d)) e) k)) ∙ set_here xs i d lt ∙ ap (λ (n : ℕ). map f (take n xs) ++ drop n xs) (sym (add-one i))

  pub set_all : (xs ys : List A) (i n : ℕ) → length xs ≤ i → ys ≡ map f (take i xs) ++ drop i xs → n ≡ length xs → take n (ys ++ drop (length ys) xs) ≡ map f xs
  set_all xs ys i n past e many =
      let none : drop i xs ≡ [] = drop_past xs i past in
      let whole : ys ≡ map f xs = e ∙ (λ k. map f (take_all i xs past k) ++ none k) ∙ append-nil (map f xs) in
      let count : length ys ≡ length xs = ap length whole ∙ length-map xs f in
      let last : drop (length ys) xs ≡ [] = drop_past xs (length ys) (omega (arith, count)) in
      (λ k. take n (whole k ++ last k)) ∙ ap (take n) (append-nil (map f xs)) ∙ take_all n (map f xs) (let a = length-map xs f in omega (arith, a, many))
    where
      drop_past : (xs : List A) (i : ℕ) → length xs ≤ i → drop i xs ≡ []
      drop_past [] zero le = refl
      drop_past [] (suc i) le = refl
      drop_past (x ∷ xs) zero le = absurd (omega (arith, le))
      drop_past (x ∷ xs) (suc i) le = drop_past xs i (omega (arith, le))

-- the cut's events at the places that were noted
pub noted_cut : (first wanted : List ℕ) (places : List (ℕ × ℕ)) (cut : LaneCut) → places ≡ placed_lines first wanted → All (λ (item : Item). Contains wanted item.order.line) cut.items
    → ◌≡◌ {A = LaneCut} (record cut { items = map (item_noted places) cut.items }) (record cut { items = map (placed_item first) cut.items })
noted_cut first wanted places cut e named =
    ap (λ (items : List Item). let k : LaneCut = record cut { items = items } in k) (ap (λ (l : List (ℕ × ℕ)). map (item_noted l) cut.items) e ∙ noted_items first wanted cut.items named)
