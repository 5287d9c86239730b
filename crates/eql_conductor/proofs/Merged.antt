-- What was taken from all lanes, put in order; and what all parts found.
use Rattle.std.proofs.Common.{◌≡◌, ◌+◌, ◌++◌, ◌<◌, ◌≤◌, ℕ, ℤ, true, false, List, [], ◌∷◌, Option, Some, length, map, refl, sym, ap, ◌∙◌, arith, subst, length-append, append_assoc}
use Rattle.std.specs.Prelude.{All, IfSome, slice_get}
use Rattle.std.proofs.lemmas.List.Elements.{All-append, All-cons, All-nil}
use Rattle.eql_values.specs.declared.item.Item.{Item}
use Rattle.eql_values.specs.declared.found.Match.{Match}
use Rattle.eql_values.specs.declared.found.Holder.{Holder}
use Rattle.eql_values.specs.declared.order.Mark.{Mark}
use Rattle.eql_values.specs.declared.order.OrderKey.{OrderKey}
use Rattle.eql_values.specs.Accepted.{Reads, accepted_items, sorted_items}
use Rattle.eql_values.specs.Ascending.{Ascend}
use Rattle.eql_values.specs.Marks.{is_below}
use Rattle.eql_values.specs.OrderKeys.{order_cmp}
use Rattle.eql_values.specs.Ordered.{numbers}
use Rattle.eql_values.proofs.Same.{order_same}
use Rattle.eql_laws.specs.Apart.{AllAreApart, AreInMatchOrder, IsApartFrom, MatchesAreApart, joined_lists, item_order}
use Rattle.eql_laws.specs.Belows.{between, from_to}
use Rattle.eql_laws.specs.Lateness.{IsAtMost}
use Rattle.eql_laws.specs.Merging.{in_match_order}
use Rattle.eql_laws.specs.Taking.{handed_out}
use Rattle.eql_laws.specs.Together.{AllAreBelow, NoneIsBelow}
use Rattle.eql_laws.proofs.Aparts.{kinds_apart}
use Rattle.eql_laws.proofs.BelowLemmas.{All-sorted}
use Rattle.eql_laws.proofs.Handing.{between_by_shard}
use Rattle.eql_parts.specs.PartSteps.{CanDeliver, Rules}
use Rattle.eql_conductor.specs.Finding.{found_of}
use Rattle.eql_conductor.specs.LaneCalls.{HandsOver, IsOfShard}
use Rattle.eql_conductor.proofs.Found.{rounds_find}
use Rattle.eql_conductor.specs.Benches.{Known}
use Rattle.eql_conductor.specs.LaneRounds.{AreLanes, HandsFrom, AllHandOver, text_at}
use Rattle.eql_conductor.specs.Rounds.{ReadTexts, found_by}

-- ---- lists from the lanes
module _ (texts : Option (List (List ℕ))) (last mark : Mark) (b : Known) where
  -- what holds of the events of each list holds of all
  all_joined : (P : Item → Type 0) (s : ℕ) (lists : List (List Item)) → ((k : ℕ) (items : List Item) → HandsOver (text_at texts k) (b.set k) last mark items → All P items)
      → HandsFrom texts last mark b s lists → All P (joined_lists lists)
  all_joined P s [] each h = All-nil P
  all_joined P s (items ∷ lists) each h = All-append P items (joined_lists lists) (each s items h.0) (all_joined P (s + 1) lists each h.1)

  pub hands_ascend : (s : ℕ) (lists : List (List Item)) → HandsFrom texts last mark b s lists → All Ascend lists
  hands_ascend s [] h = All-nil Ascend
  hands_ascend s (items ∷ lists) h = All-cons Ascend items lists h.0.ascends (hands_ascend (s + 1) lists h.1)

  abbrev shard_of : OrderKey → ℕ
  shard_of k = k.shard

  is_of : (s : ℕ) (items : List Item) → (b.set s).shard ≡ s → HandsOver (text_at texts s) (b.set s) last mark items → All (IsOfShard s) items
  is_of s items e h = subst (λ (n : ℕ). All (IsOfShard n) items) e h.of_shard

  apart_others : (first s n : ℕ) (xs : List Item) (lists : List (List Item)) → first < s → s + length lists ≡ n → n ≤ b.lanes → AreLanes b → All (IsOfShard first) xs
      → HandsFrom texts last mark b s lists → IsApartFrom xs lists
  apart_others first s n xs [] lt e le are of_xs h = tt
  apart_others first s n xs (items ∷ lists) lt e le are of_xs h = (
    kinds_apart order_cmp order_same item_order shard_of first s xs items (λ same. omega (arith, same, lt)) of_xs (is_of s items (are.shard s (omega (arith, e, le))) h.0),
    apart_others first (s + 1) n xs lists (omega (arith, lt)) (omega (arith, e)) le are of_xs h.1,
  )

  hands_apart : (s n : ℕ) (lists : List (List Item)) → s + length lists ≡ n → n ≤ b.lanes → AreLanes b → HandsFrom texts last mark b s lists → AllAreApart lists
  hands_apart s n [] e le are h = tt
  hands_apart s n (items ∷ lists) e le are h = (
    apart_others s (s + 1) n items lists (omega arith) (omega (arith, e)) le are (is_of s items (are.shard s (omega (arith, e, le))) h.0) h.1,
    hands_apart (s + 1) n lists (omega (arith, e)) le are h.1,
  )

  pub all_ascend : (lists : List (List Item)) → AllHandOver texts last mark b lists → All Ascend lists
  all_ascend lists h = hands_ascend 0 lists h.each

  pub all_apart : (lists : List (List Item)) → AreLanes b → AllHandOver texts last mark b lists → AllAreApart lists
  all_apart lists are h = hands_apart 0 b.lanes lists (let e = h.count in omega (arith, e)) (omega arith) are h.each

  -- put in order they may be delivered
  pub can_deliver : (lists : List (List Item)) (items : List Item) → IsAtMost last mark → items ≡ sorted_items (joined_lists lists) → Ascend items → AllHandOver texts last mark b lists → CanDeliver last items mark
  can_deliver lists items later e asc h = record {
    rises = later;
    ascends = asc;
    not_below = subst (NoneIsBelow last) (sym e) (All-sorted (λ (x : Item). is_below last x ≡ false) (joined_lists lists)
        (all_joined (λ (x : Item). is_below last x ≡ false) 0 lists (λ k items hands. hands.none_below) h.each));
    below = subst (AllAreBelow mark) (sym e) (All-sorted (λ (x : Item). is_below mark x ≡ true) (joined_lists lists)
        (all_joined (λ (x : Item). is_below mark x ≡ true) 0 lists (λ k items hands. hands.below) h.each));
  }

-- ---- of told texts
get-seam : {X : Type 0} (xs : List X) (y : X) (ys : List X) → slice_get (xs ++ y ∷ ys) (length xs) ≡ Some y
get-seam [] y ys = refl
get-seam (x ∷ xs) y ys = get-seam xs y ys

module _ (reads : Reads) (slack : Option ℤ) (last mark : Mark) (b : Known) (are : AreLanes b) where
  one_handed : (s : ℕ) (text : List ℕ) (texts : Option (List ℕ)) (items : List Item) → s < b.lanes → (b.set s).reads ≡ reads → (b.set s).slack ≡ slack → texts ≡ Some text
      → HandsOver texts (b.set s) last mark items → items ≡ sorted_items (from_to last mark (accepted_items reads slack s text))
  one_handed s text texts items l r k e h =
      let told : IfSome texts (λ t. items ≡ sorted_items (from_to last mark (accepted_items (b.set s).reads (b.set s).slack (b.set s).shard t))) = h.told in
      subst (λ (o : Option (List ℕ)). IfSome o (λ t. items ≡ sorted_items (from_to last mark (accepted_items (b.set s).reads (b.set s).slack (b.set s).shard t)))) e told
      ∙ (λ i. sorted_items (from_to last mark (accepted_items (r i) (k i) (are.shard s l i) text)))

  handed : (front texts : List (List ℕ)) (s : ℕ) (lists : List (List Item)) → ReadTexts reads slack (front ++ texts) b → length front ≡ s → length lists ≡ length texts
      → HandsFrom (Some (front ++ texts)) last mark b s lists → lists ≡ handed_out reads slack s texts last mark
  handed front [] s [] read at e h = refl
  handed front (text ∷ texts) s [] read at e h = absurd (omega (arith, e))
  handed front [] s (items ∷ lists) read at e h = absurd (omega (arith, e))
  handed front (text ∷ texts) s (items ∷ lists) read at e h =
      let count = sym read.count ∙ length-append front (text ∷ texts) in
      let place : s < b.lanes = omega (arith, count, at) in
      let moved : (front ++ text ∷ []) ++ texts ≡ front ++ text ∷ texts = append_assoc front (text ∷ []) texts in
      let one = one_handed s text (text_at (Some (front ++ text ∷ texts)) s) items place (read.reads_are s place) (read.slack_is s place)
      (ap (λ (k : ℕ). slice_get (front ++ text ∷ texts) k) (sym at) ∙ get-seam front text texts) h.0 in
      let rest = handed (front ++ text ∷ []) texts (s + 1) lists (subst (λ (l : List (List ℕ)). ReadTexts reads slack l b) (sym moved) read)
      (let l = length-append front (text ∷ []) in omega (arith, l, at)) (omega (arith, e))
      (subst (λ (l : List (List ℕ)). HandsFrom (Some l) last mark b (s + 1) lists) (sym moved) h.1) in
      λ i. one i ∷ rest i

  pub between_is : (texts : List (List ℕ)) (lists : List (List Item)) (items : List Item) → ReadTexts reads slack texts b → AllHandOver (Some texts) last mark b lists
      → items ≡ sorted_items (joined_lists lists) → items ≡ between reads slack texts last mark
  between_is texts lists items read h e =
      e ∙ ap (λ (l : List (List Item)). sorted_items (joined_lists l)) (handed [] texts 0 lists read refl (let a = h.count in let c = read.count in omega (arith, a, c)) h.each)
      ∙ between_by_shard reads slack texts last mark

-- ---- what the parts found
pub lists_in_order : (rules : Rules) (all : List Holder) (items : List Item) (lists : List (List Match)) → Ascend items → lists ≡ map (found_of rules all items) (numbers 16) → All AreInMatchOrder lists
lists_in_order rules all items lists asc e = subst (All AreInMatchOrder) (sym e) (rounds_find rules all items asc).in_order

pub lists_apart : (rules : Rules) (all : List Holder) (items : List Item) (lists : List (List Match)) → Ascend items → lists ≡ map (found_of rules all items) (numbers 16) → MatchesAreApart lists
lists_apart rules all items lists asc e = subst MatchesAreApart (sym e) (rounds_find rules all items asc).apart

pub found_is : (rules : Rules) (all : List Holder) (items : List Item) (lists : List (List Match)) (found : List Match) → Ascend items
    → lists ≡ map (found_of rules all items) (numbers 16) → found ≡ in_match_order (joined_lists lists) → found ≡ found_by rules all items
found_is rules all items lists found asc e is =
    is ∙ ap (λ (l : List (List Match)). in_match_order (joined_lists l)) e ∙ (rounds_find rules all items asc).merged
