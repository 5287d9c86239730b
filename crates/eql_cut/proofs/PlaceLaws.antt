-- Places in the order that a cut has, its lines, and its places set anew.
use Rattle.std.proofs.Common.{◌≡◌, ℕ, zero, suc, ◌<◌, ◌≤◌, true, false, Bool, ◌&&◌, eqb, cond, List, [], ◌∷◌, ◌++◌, length, map, filter, All, get_or, refl, sym, ap, subst, ◌∙◌, arith}
use mathlib.Core.Logic.{⊎_elim}
use borrow.Author.Tests.{tests}
use Rattle.std.proofs.lemmas.Bool.{eq-eqb, cases_lt, and_parts}
use Rattle.std.proofs.lemmas.List.Elements.{All-nil, All-cons, All-head, All-tail}
use Rattle.std.proofs.lemmas.List.{append_assoc}
use Rattle.std.proofs.lemmas.List.Kept.{Contains-dedup_nat, Contains-from_dedup}
use Rattle.std.proofs.lemmas.List.Sorted.{Contains-permutation, IsPermutation-sym}
use Rattle.std.specs.Prelude.{◌↔◌, Contains, IsPermutation}
use Rattle.std.specs.List.{flat_map, list_all, dedup}
use Rattle.std.specs.FinMap.Entries.{is_sorted, below_all}
use Rattle.std.specs.List.Sorted.{IsNonDecreasingBy, IsPartitionPoint}
use Rattle.std.specs.Ordering.{is_lt, ordering_then, ordering_index, nat_cmp, int_cmp}
use Rattle.std.specs.declared.cmp.Ordering.{Ordering}
use Rattle.std.specs.declared.cmp.Ordering.TheVariants.{Less, Equal, Greater}
use Rattle.std.specs.Cmp.{tied_itself}
use Rattle.std.proofs.lemmas.Cmp.{nat_cmp_total}
use Rattle.eql_values.specs.declared.order.OrderKey.{OrderKey}
use Rattle.eql_values.specs.declared.item.Item.{Item}
use Rattle.eql_values.specs.OrderKeys.{tie_cmp, order_cmp, before_all, events_ascend, EventsAscend}
use Rattle.eql_cut.specs.Placing.{lines_at, IsUnplaced, LinesAscend, place_in, listed_place, lifted_order, lifted_chain}

-- lines of several lists

module _ (shard : ℕ) where
  pub lines_at-append : (a b : List OrderKey) → lines_at shard (a ++ b) ≡ lines_at shard a ++ lines_at shard b
  lines_at-append [] b = refl
  lines_at-append (o ∷ a) b =
      elim (eqb o.shard shard) as (λ v. map (λ (x : OrderKey). x.line) (cond v (o ∷ filter (λ (x : OrderKey). eqb x.shard shard) (a ++ b)) (filter (λ (x : OrderKey). eqb x.shard shard) (a ++ b)))
      ≡ map (λ (x : OrderKey). x.line) (cond v (o ∷ filter (λ (x : OrderKey). eqb x.shard shard) a) (filter (λ (x : OrderKey). eqb x.shard shard) a)) ++ lines_at shard b) [
        | true ↦ ap (λ (l : List ℕ). o.line ∷ l) (lines_at-append a b)
        | false ↦ lines_at-append a b
      ]

  pub lines_each : {A : Type 0} (orders : A → List OrderKey) (xs : List A) → flat_map (λ (x : A). lines_at shard (orders x)) xs ≡ lines_at shard (flat_map orders xs)
  lines_each orders [] = refl
  lines_each orders (x ∷ xs) = ap (λ (l : List ℕ). lines_at shard (orders x) ++ l) (lines_each orders xs) ∙ sym (lines_at-append (orders x) (flat_map orders xs))

-- orders with other places
then_alike : (o p q : Ordering) → (o ≡ Equal → p ≡ q) → ordering_then o p ≡ ordering_then o q
then_alike Less p q same = refl
then_alike Equal p q same = same refl
then_alike Greater p q same = refl

nat_same : (m n : ℕ) → nat_cmp m n ≡ Equal → m ≡ n
nat_same m n is = grind arith

module _ (place : ℕ → ℕ → ℕ) where
  places_tie : (a b : OrderKey) → a.at ≡ 0 → b.at ≡ 0 → nat_cmp a.shard b.shard ≡ Equal → nat_cmp a.line b.line ≡ Equal
      → nat_cmp (place a.shard a.line) (place b.shard b.line) ≡ nat_cmp a.at b.at
  places_tie a b az bz shards lines =
      (λ i. nat_cmp (place (nat_same a.shard b.shard shards i) (nat_same a.line b.line lines i)) (place b.shard b.line)) ∙ tied_itself nat_cmp_total (place b.shard b.line)
      ∙ sym (λ i. nat_cmp (az i) (bz i))

  pub order_alike : (a b : OrderKey) → a.at ≡ 0 → b.at ≡ 0 → order_cmp (lifted_order place a) (lifted_order place b) ≡ order_cmp a b
  order_alike a b az bz =
      then_alike (int_cmp a.ts b.ts) _ _ (λ ts.
      then_alike (tie_cmp a.tie b.tie) _ _ (λ tie.
      then_alike (nat_cmp a.shard b.shard) _ _ (λ shards.
      then_alike (nat_cmp a.line b.line) _ _ (λ lines. places_tie a b az bz shards lines))))

  before_alike : (o : OrderKey) (chain : List OrderKey) → o.at ≡ 0 → IsUnplaced chain → before_all (lifted_order place o) (lifted_chain place chain) ≡ before_all o chain
  before_alike o [] oz none = refl
  before_alike o (e ∷ chain) oz none =
      λ i. is_lt (order_alike o e oz (All-head (λ (x : OrderKey). x.at ≡ 0) e chain none) i) && before_alike o chain oz (All-tail (λ (x : OrderKey). x.at ≡ 0) e chain none) i

  pub events_alike : (chain : List OrderKey) → IsUnplaced chain → events_ascend (lifted_chain place chain) ≡ events_ascend chain
  events_alike [] none = refl
  events_alike (e ∷ chain) none =
      let rest = All-tail (λ (x : OrderKey). x.at ≡ 0) e chain none in
      λ i. before_alike e chain (All-head (λ (x : OrderKey). x.at ≡ 0) e chain none) rest i && events_alike chain rest i

  pub still_ascend : (chain : List OrderKey) → IsUnplaced chain → EventsAscend chain → EventsAscend (lifted_chain place chain)
  still_ascend chain none up = events_alike chain none ∙ up

-- lists that have no places
unplaced_left : (a b : List OrderKey) → IsUnplaced (a ++ b) → IsUnplaced a
unplaced_left [] b none = All-nil _
unplaced_left (o ∷ a) b none =
    All-cons (λ (x : OrderKey). x.at ≡ 0) o a (All-head (λ (x : OrderKey). x.at ≡ 0) o (a ++ b) none) (unplaced_left a b (All-tail (λ (x : OrderKey). x.at ≡ 0) o (a ++ b) none))

unplaced_right : (a b : List OrderKey) → IsUnplaced (a ++ b) → IsUnplaced b
unplaced_right [] b none = none
unplaced_right (o ∷ a) b none = unplaced_right a b (All-tail (λ (x : OrderKey). x.at ≡ 0) o (a ++ b) none)

pub record BothUnplaced (a b : List OrderKey) : Type 0 where
  pub left : IsUnplaced a
  pub right : IsUnplaced b

pub unplaced_both : (a b : List OrderKey) → IsUnplaced (a ++ b) → BothUnplaced a b
unplaced_both a b none = record { left = unplaced_left a b none; right = unplaced_right a b none }

pub each_unplaced : {A : Type 0} (orders : A → List OrderKey) (xs : List A) → IsUnplaced (flat_map orders xs) → All (λ (x : A). IsUnplaced (orders x)) xs
each_unplaced orders [] none = All-nil _
each_unplaced {A = A} orders (x ∷ xs) none =
    let both = unplaced_both (orders x) (flat_map orders xs) none in
    All-cons (λ (y : A). IsUnplaced (orders y)) x xs both.left (each_unplaced orders xs both.right)

-- a look-up among lines that ascend
less_not : (m n : ℕ) → m < n → eqb m n ≡ false
less_not m n lt = grind arith

apart_not : (m n : ℕ) → (m ≡ n → ⊥) → eqb m n ≡ false
apart_not m n never = grind arith

-- the lines of the others are all greater, and so on
abbrev Rises : List (ℕ × ℕ) → Type 0
Rises [] = Unit {0}
Rises (p ∷ places) = All (λ (q : ℕ × ℕ). p.0 < q.0) places × Rises places

is_less : (m n : ℕ) → is_lt (nat_cmp m n) ≡ true → m < n
is_less m n is = grind arith

all_above : (line : ℕ) (places : List (ℕ × ℕ)) → below_all nat_cmp line places ≡ true → All (λ (q : ℕ × ℕ). line < q.0) places
all_above line [] is = All-nil _
all_above line (p ∷ places) is =
    let parts = and_parts (is_lt (nat_cmp line p.0)) (below_all nat_cmp line places) is in
    All-cons (λ (q : ℕ × ℕ). line < q.0) p places (is_less line p.0 parts.0) (all_above line places parts.1)

rises : (places : List (ℕ × ℕ)) → is_sorted nat_cmp places ≡ true → Rises places
rises [] is = tt
rises (p ∷ places) is =
    let parts = and_parts (below_all nat_cmp p.0 places) (is_sorted nat_cmp places) is in
    (all_above p.0 places parts.0, rises places parts.1)

found_rising : (places : List (ℕ × ℕ)) (line : ℕ) → Rises places → (i : ℕ) (d : ℕ × ℕ) → i < length places → (get_or places i d).0 ≡ line → (get_or places i d).1 ≡ place_in places line
found_rising [] line up i d lt is = absurd (omega arith)
found_rising (p ∷ places) line up zero d lt is = sym (ap (λ (b : Bool). cond b p.1 (place_in places line)) (eq-eqb p.0 line is))
found_rising (p ∷ places) line up (suc i) d lt is =
    let more : p.0 < (get_or places i d).0 = up.0 i d (omega arith) in
    found_rising places line up.1 i d (omega arith) is
    ∙ sym (ap (λ (b : Bool). cond b p.1 (place_in places line)) (less_not p.0 line (omega (arith, is, more))))

pub none_found : (places : List (ℕ × ℕ)) (line : ℕ) → All (λ (p : ℕ × ℕ). p.0 ≡ line → ⊥) places → place_in places line ≡ 0
none_found [] line none = refl
none_found (p ∷ places) line none =
    ap (λ (b : Bool). cond b p.1 (place_in places line)) (apart_not p.0 line (All-head (λ (q : ℕ × ℕ). q.0 ≡ line → ⊥) p places none))
    ∙ none_found places line (All-tail (λ (q : ℕ × ℕ). q.0 ≡ line → ⊥) p places none)

lines_rise : (places : List (ℕ × ℕ)) → Rises places → (i j : ℕ) (d : ℕ × ℕ) → i ≤ j → j < length places → (get_or places i d).0 ≤ (get_or places j d).0
lines_rise [] up i j d le lt = absurd (omega arith)
lines_rise (p ∷ places) up zero zero d le lt = omega arith
lines_rise (p ∷ places) up zero (suc j) d le lt = let more : p.0 < (get_or places j d).0 = up.0 j d (omega arith) in omega (arith, more)
lines_rise (p ∷ places) up (suc i) zero d le lt = absurd (omega arith)
lines_rise (p ∷ places) up (suc i) (suc j) d le lt = lines_rise places up.1 i j d (omega arith) (omega arith)

higher : (a b line : ℕ) → a ≤ b → ordering_index (nat_cmp a line) ≤ ordering_index (nat_cmp b line)
higher a b line le = grind (arith, tests)

less_apart : (a line : ℕ) → nat_cmp a line ≡ Less → a ≡ line → ⊥
less_apart a line less is = let tied : nat_cmp a line ≡ Equal = ap (nat_cmp a) (sym is) ∙ tied_itself nat_cmp_total a in cc

more_apart : (a line : ℕ) → nat_cmp a line ≡ Greater → a ≡ line → ⊥
more_apart a line more is = let tied : nat_cmp a line ≡ Equal = ap (nat_cmp a) (sym is) ∙ tied_itself nat_cmp_total a in cc

-- what a binary search by line returns
pub searched_none : (places : List (ℕ × ℕ)) (line i : ℕ) → is_sorted nat_cmp places ≡ true
    → (IsNonDecreasingBy (λ (y : ℕ × ℕ). ordering_index (nat_cmp y.0 line)) places → IsPartitionPoint (λ (y : ℕ × ℕ). nat_cmp y.0 line ≡ Less) (λ (y : ℕ × ℕ). nat_cmp y.0 line ≡ Greater) places i)
    → place_in places line ≡ 0
searched_none places line i up parts =
    let parted = parts (λ a b d le lt. higher (get_or places a d).0 (get_or places b d).0 line (lines_rise places (rises places up) a b d le lt)) in
    none_found places line
    (λ k d lt. ⊎_elim (λ (below : k < i). less_apart (get_or places k d).0 line (parted.0 k d (omega arith) below))
    (λ (from : i ≤ k). more_apart (get_or places k d).0 line (parted.1 k d from lt)) (cases_lt k i))

pub at_found : (places : List (ℕ × ℕ)) (line : ℕ) → is_sorted nat_cmp places ≡ true → (i : ℕ) (d : ℕ × ℕ) → i < length places → nat_cmp (get_or places i d).0 line ≡ Equal
    → (get_or places i d).1 ≡ place_in places line
at_found places line up i d lt is = found_rising places line (rises places up) i d lt (nat_same (get_or places i d).0 line is)

-- the list of a shard
pub list_at : (lists : List (List (ℕ × ℕ))) (shard : ℕ) (d : List (ℕ × ℕ)) → LinesAscend lists → shard < length lists → is_sorted nat_cmp (get_or lists shard d) ≡ true
list_at [] shard d up lt = absurd (omega arith)
list_at (places ∷ lists) zero d up lt = (and_parts (is_sorted nat_cmp places) (list_all (is_sorted nat_cmp) lists) up).0
list_at (places ∷ lists) (suc shard) d up lt = list_at lists shard d (and_parts (is_sorted nat_cmp places) (list_all (is_sorted nat_cmp) lists) up).1 (omega arith)

pub place_at : (lists : List (List (ℕ × ℕ))) (shard line : ℕ) (d : List (ℕ × ℕ)) → shard < length lists → place_in (get_or lists shard d) line ≡ listed_place lists shard line
place_at [] shard line d lt = absurd (omega arith)
place_at (places ∷ lists) zero line d lt = refl
place_at (places ∷ lists) (suc shard) line d lt = place_at lists shard line d (omega arith)

pub no_list : (lists : List (List (ℕ × ℕ))) (shard line : ℕ) → length lists ≤ shard → listed_place lists shard line ≡ 0
no_list [] shard line le = refl
no_list (places ∷ lists) zero line le = absurd (omega arith)
no_list (places ∷ lists) (suc shard) line le = no_list lists shard line (omega arith)

pub place_some : (lists xs : List (List (ℕ × ℕ))) (places : List (ℕ × ℕ)) (shard line r : ℕ) → xs ≡ lists → shard < length xs → places ≡ get_or xs shard places → r ≡ place_in places line
    → r ≡ listed_place lists shard line
place_some lists xs places shard line r same lt is got =
    got ∙ ap (λ (l : List (ℕ × ℕ)). place_in l line) is ∙ place_at xs shard line places lt ∙ ap (λ (l : List (List (ℕ × ℕ))). listed_place l shard line) same

pub list_some : (lists xs : List (List (ℕ × ℕ))) (places : List (ℕ × ℕ)) (shard : ℕ) → xs ≡ lists → LinesAscend lists → shard < length xs → places ≡ get_or xs shard places → is_sorted nat_cmp places ≡ true
list_some lists xs places shard same up lt is =
    ap (is_sorted nat_cmp) is ∙ list_at xs shard places (subst LinesAscend (sym same) up) lt

-- lists of one
pub flat_single : (orders : List OrderKey) → flat_map (λ (o : OrderKey). o ∷ []) orders ≡ orders
flat_single [] = refl
flat_single (o ∷ orders) = ap (λ (l : List OrderKey). o ∷ l) (flat_single orders)

pub flat_items : (items : List Item) → flat_map (λ (i : Item). i.order ∷ []) items ≡ map (λ (i : Item). i.order) items
flat_items [] = refl
flat_items (i ∷ items) = ap (λ (l : List OrderKey). i.order ∷ l) (flat_items items)

-- lines that were sorted, of which each is there once
pub lines_told : (pushed sorted kept all : List ℕ) → pushed ≡ all → IsPermutation pushed sorted → kept ≡ dedup eqb sorted → (line : ℕ) → Contains kept line ↔ Contains all line
lines_told pushed sorted kept all same moved left line = (
  λ is. subst (λ (l : List ℕ). Contains l line) same
      (Contains-permutation sorted pushed line (IsPermutation-sym pushed sorted moved) (Contains-from_dedup eqb sorted line (subst (λ (l : List ℕ). Contains l line) left is))),
  λ is. subst (λ (l : List ℕ). Contains l line) (sym left)
      (Contains-dedup_nat sorted line (Contains-permutation pushed sorted line moved (subst (λ (l : List ℕ). Contains l line) (sym same) is))),
)

-- lines pushed three times
pub lines_three : (shard : ℕ) (to one two three : List ℕ) (a b c : List OrderKey) → one ≡ to ++ lines_at shard a → two ≡ one ++ lines_at shard b → three ≡ two ++ lines_at shard c
    → three ≡ to ++ lines_at shard (a ++ (b ++ c))
lines_three shard to one two three a b c first second third =
    let la = lines_at shard a in
    let lb = lines_at shard b in
    let lc = lines_at shard c in
    third ∙ ap (λ (l : List ℕ). l ++ lc) (second ∙ ap (λ (l : List ℕ). l ++ lb) first) ∙ ap (λ (l : List ℕ). l ++ lc) (append_assoc to la lb)
    ∙ append_assoc to (la ++ lb) lc ∙ ap (λ (l : List ℕ). to ++ l) (append_assoc la lb lc)
    ∙ ap (λ (l : List ℕ). to ++ l) (sym (lines_at-append shard a (b ++ c) ∙ ap (λ (l : List ℕ). la ++ l) (lines_at-append shard b c)))
