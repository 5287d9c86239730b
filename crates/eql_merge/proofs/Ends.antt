-- What is merged of lists of events, of matches and of pending sequences is all of them put in order.
use Rattle.std.proofs.Common.{◌≡◌, ◌∙◌, Bool, true, false, cond, List, [], ◌∷◌, map, take, drop, length, ℕ, suc, arith, length-drop, ◌-◌, Some, refl, sym, ap, subst, T}
use Rattle.std.specs.Prelude.{All}
use Rattle.std.specs.List.{find}
use Rattle.std.specs.Option.{option_map}
use Rattle.std.specs.Cmp.{IsTotalOrder}
use Rattle.std.specs.Ordering.{eq_by_cmp}
use Rattle.std.specs.FinMap.Entries.{find as find_entry, below_all, is_sorted}
use Rattle.std.specs.declared.cmp.Ordering.{Ordering}
use Rattle.std.specs.declared.cmp.Ordering.TheVariants.{Equal}
use Rattle.std.proofs.lemmas.List.{take_all}
use Rattle.std.proofs.lemmas.List.Elements.{All-nil, All-cons, All-weaker}
use Rattle.eql_values.specs.declared.order.OrderKey.{OrderKey}
use Rattle.eql_values.specs.declared.item.Item.{Item}
use Rattle.eql_values.specs.declared.item.Route.{Route}
use Rattle.eql_values.specs.declared.found.Match.{Match}
use Rattle.eql_values.specs.declared.found.Holder.{Holder}
use Rattle.eql_values.specs.Matching.{slot_cmp}
use Rattle.eql_values.specs.Accepted.{sorted_items}
use Rattle.eql_values.specs.Ascending.{AllAreAfter, Ascend}
use Rattle.eql_values.specs.OrderKeys.{order_cmp}
use Rattle.eql_values.specs.Ordered.{in_order}
use Rattle.eql_values.specs.Totals.{order_cmp_total, slot_cmp_total}
use Rattle.eql_values.proofs.InOrder.{is_in_order}
use Rattle.eql_values.proofs.Same.{order_same}
use Rattle.eql_laws.specs.Alive.{HoldersAreInOrder}
use Rattle.eql_laws.specs.Apart.{item_order, ending_of, SharesNoKey, RepeatNoKey, AllAreApart, MatchesAreApart, AreInMatchOrder, joined_lists}
use Rattle.eql_laws.specs.Belows.{HasRoutesInOrder, SortedAscends}
use Rattle.eql_laws.specs.Merging.{ending_cmp, by_ending, by_slot, holder_of, match_of, in_match_order, in_slot_order, last_of}
use Rattle.eql_laws.specs.Totals.{ending_cmp_total}
use Rattle.eql_laws.proofs.Elements.{All-flat_map}
use Rattle.eql_laws.proofs.Facts.{both_hold, holds_true, left_holds, right_holds, less_is, is_less, is_equal}
use Rattle.eql_laws.proofs.Held.{slot_same}
use Rattle.eql_laws.proofs.Lists.{map_back}
use Rattle.eql_laws.proofs.Merged.{ending_same}
use Rattle.eql_merge.specs.Ranks.{StandsFirst, Ascends, HoldersAreApart, HaveNoTies, HaveSameFirsts, holder_rank, item_rank, match_rank, slot_of}

-- values by keys: lists that ascend by the ranks of their keys are their entries in order
module _ {X K V : Type 0} (R : K → K → Ordering) (total : IsTotalOrder R) (same : (x y : K) → R x y ≡ Equal → x ≡ y) (key : X → K) (rest : X → V) where
  abbrev pub rank : X → X → Ordering
  rank x y = R (key x) (key y)

  abbrev pub entry : X → K × V
  entry x = (key x, rest x)

  first_below : (x : X) (xs : List X) → StandsFirst rank x xs → T (below_all R (key x) (map entry xs))
  first_below x [] h = tt
  first_below x (y ∷ xs) h = both_hold _ _ (less_is _ h.0) (first_below x xs h.1)

  ascends_sorted : (xs : List X) → Ascends rank xs → T (is_sorted R (map entry xs))
  ascends_sorted [] h = tt
  ascends_sorted (x ∷ xs) h = both_hold _ _ (first_below x xs h.0) (ascends_sorted xs h.1)

  below_first : (x : X) (xs : List X) → T (below_all R (key x) (map entry xs)) → StandsFirst rank x xs
  below_first x [] h = tt
  below_first x (y ∷ xs) h = (is_less _ (left_holds _ _ h), below_first x xs (right_holds _ _ h))

  pub sorted_ascends_by : (xs : List X) → T (is_sorted R (map entry xs)) → Ascends rank xs
  sorted_ascends_by [] h = tt
  sorted_ascends_by (x ∷ xs) h = (below_first x xs (left_holds _ _ h), sorted_ascends_by xs (right_holds _ _ h))

  others_apart : (xs : List X) (lists : List (List X)) → SharesNoKey R key xs lists → SharesNoKey rank (λ (x : X). x) xs lists
  others_apart xs [] h = tt
  others_apart xs (ys ∷ lists) h = (λ x there. h.0 (key x) there, others_apart xs lists h.1)

  pub apart_by : (lists : List (List X)) → RepeatNoKey R key lists → HaveNoTies rank lists
  apart_by [] h = tt
  apart_by (xs ∷ lists) h = (others_apart xs lists h.0, apart_by lists h.1)

  find_by : (q : K) (xs : List X) → find_entry R q (map entry xs) ≡ option_map rest (find (λ (x : X). eq_by_cmp R q (key x)) xs)
  find_by q [] = refl
  find_by q (x ∷ xs) = one (eq_by_cmp R q (key x)) (find_by q xs)
    where
      one : (b : Bool) → find_entry R q (map entry xs) ≡ option_map rest (find (λ (x : X). eq_by_cmp R q (key x)) xs)
          → cond b (Some (rest x)) (find_entry R q (map entry xs)) ≡ option_map rest (cond b (Some x) (find (λ (x : X). eq_by_cmp R q (key x)) xs))
      one true e = refl
      one false e = e

  pub merged_in_order : (whole all : List X) → Ascends rank all → HaveSameFirsts rank whole all → map entry all ≡ in_order R (map entry whole)
  merged_in_order whole all up firsts =
      is_in_order R total same (map entry all) (map entry whole) (ascends_sorted all up)
      (λ q. find_by q all
      ∙ ap (option_map rest) (sym (firsts (λ (x : X). eq_by_cmp R q (key x))
      (λ x y p r. sym (total.congr q (key x) (key y) (is_equal (R q (key x)) p)) ∙ is_equal (R q (key y)) r)))
      ∙ sym (find_by q whole))

-- ---- events
after_first : (item : Item) (items : List Item) → AllAreAfter item.order items → StandsFirst item_rank item items
after_first item [] h = tt
after_first item (next ∷ items) h = (h.0, after_first item items h.1)

ascending_ascends : (items : List Item) → Ascend items → Ascends item_rank items
ascending_ascends [] h = tt
ascending_ascends (item ∷ items) h = (after_first item items h.1, ascending_ascends items h.2)

pub items_ascend : (lists : List (List Item)) → All Ascend lists → All (Ascends item_rank) lists
items_ascend lists h = All-weaker Ascend (Ascends item_rank) ascending_ascends lists h

abbrev routes_in : Item → List Route
routes_in item = item.routes

pub items_apart : (lists : List (List Item)) → AllAreApart lists → HaveNoTies item_rank lists
items_apart lists h = apart_by order_cmp order_cmp_total order_same item_order routes_in lists h

items_back : (items : List Item) → map (λ (e : OrderKey × List Route). let item : Item = record { order = e.0; routes = e.1 } in item) (map (λ (item : Item). (item.order, item.routes)) items) ≡ items
items_back [] = refl
items_back (item ∷ items) = ap (λ (rest : List Item). item ∷ rest) (items_back items)

pub items_merged : (lists : List (List Item)) (all : List Item) → Ascends item_rank all → HaveSameFirsts item_rank (joined_lists lists) all → all ≡ sorted_items (joined_lists lists)
items_merged lists all up firsts =
    sym (items_back all)
    ∙ ap (map (λ (e : OrderKey × List Route). record { order = e.0; routes = e.1 })) (merged_in_order order_cmp order_cmp_total order_same item_order routes_in (joined_lists lists) all up firsts)

routes_stand : (items : List Item) → Ascend items → All HasRoutesInOrder items
routes_stand [] h = All-nil HasRoutesInOrder
routes_stand (item ∷ items) h = All-cons HasRoutesInOrder item items h.0 (routes_stand items h.2)

pub all_ascends : SortedAscends → (lists : List (List Item)) → All Ascend lists → Ascend (sorted_items (joined_lists lists))
all_ascends ascends lists h = ascends (joined_lists lists) (All-flat_map Ascend HasRoutesInOrder (λ (items : List Item). items) routes_stand lists h)

-- ---- matches
abbrev chain_in : Match → List OrderKey
chain_in found = found.chain

pub matches_ascend : (lists : List (List Match)) → All AreInMatchOrder lists → All (Ascends match_rank) lists
matches_ascend lists h =
    All-weaker AreInMatchOrder (Ascends match_rank) (λ found up. sorted_ascends_by ending_cmp ending_cmp_total ending_same ending_of chain_in found (subst T (sym up) tt)) lists h

pub matches_apart : (lists : List (List Match)) → MatchesAreApart lists → HaveNoTies match_rank lists
matches_apart lists h = apart_by ending_cmp ending_cmp_total ending_same ending_of chain_in lists h

pub matches_merged : (lists : List (List Match)) (all : List Match) → Ascends match_rank all → HaveSameFirsts match_rank (joined_lists lists) all → all ≡ in_match_order (joined_lists lists)
matches_merged lists all up firsts =
    sym (map_back match_of by_ending (λ m. refl) all)
    ∙ ap (map match_of) (merged_in_order ending_cmp ending_cmp_total ending_same ending_of chain_in (joined_lists lists) all up firsts)

pub matches_stand : (all : List Match) → Ascends match_rank all → AreInMatchOrder all
matches_stand all up = holds_true _ (ascends_sorted ending_cmp ending_cmp_total ending_same ending_of chain_in all up)

-- ---- pending sequences
abbrev events_of : Holder → List OrderKey
events_of h = h.chain

pub holders_ascend : (lists : List (List Holder)) → All HoldersAreInOrder lists → All (Ascends holder_rank) lists
holders_ascend lists h =
    All-weaker HoldersAreInOrder (Ascends holder_rank) (λ held up. sorted_ascends_by slot_cmp slot_cmp_total slot_same slot_of events_of held (subst T (sym up) tt)) lists h

pub holders_apart : (lists : List (List Holder)) → HoldersAreApart lists → HaveNoTies holder_rank lists
holders_apart lists h = apart_by slot_cmp slot_cmp_total slot_same slot_of events_of lists h

pub holders_merged : (lists : List (List Holder)) (all : List Holder) → Ascends holder_rank all → HaveSameFirsts holder_rank (joined_lists lists) all → all ≡ in_slot_order (joined_lists lists)
holders_merged lists all up firsts =
    sym (map_back holder_of by_slot (λ h. refl) all)
    ∙ ap (map holder_of) (merged_in_order slot_cmp slot_cmp_total slot_same slot_of events_of (joined_lists lists) all up firsts)

pub holders_stand : (all : List Holder) → Ascends holder_rank all → HoldersAreInOrder all
holders_stand all up = holds_true _ (ascends_sorted slot_cmp slot_cmp_total slot_same slot_of events_of all up)

-- the last event of a chain
last_is : (chain : List OrderKey) → drop (length chain - 1) chain ≡ last_of chain
last_is [] = refl
last_is (event ∷ []) = refl
last_is (event ∷ next ∷ rest) = ap (λ (n : ℕ). drop n (event ∷ next ∷ rest)) (one_less (length rest)) ∙ last_is (next ∷ rest)
  where
    one_less : (k : ℕ) → suc (suc k) - 1 ≡ suc (suc k - 1)
    one_less k = omega arith

pub last_piece : (chain : List OrderKey) (start : ℕ) → start ≡ length chain - 1 → take (length chain - start) (drop start chain) ≡ last_of chain
last_piece chain start e =
    take_all (length chain - start) (drop start chain) (let a = length-drop start chain in omega (arith, a))
    ∙ ap (λ (n : ℕ). drop n chain) e ∙ last_is chain
