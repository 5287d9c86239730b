-- Values in an order: lists that ascend, and what a merge of them keeps.
use Rattle.std.specs.Prelude.{◌≡◌, Bool, true, List, [], ◌∷◌}
use Rattle.std.specs.List.{find}
use Rattle.std.specs.Ordering.{on}
use Rattle.std.specs.Cmp.{IsTotalOrder}
use Rattle.std.specs.declared.cmp.Ordering.{Ordering}
use Rattle.std.specs.declared.cmp.Ordering.TheVariants.{Less, Equal}
use Rattle.std.proofs.lemmas.Cmp.{on_total}
use Rattle.eql_values.specs.declared.item.Item.{Item}
use Rattle.eql_values.specs.declared.found.Match.{Match}
use Rattle.eql_values.specs.declared.found.Holder.{Holder}
use Rattle.eql_values.specs.Matching.{Slot, slot_cmp}
use Rattle.eql_values.specs.OrderKeys.{order_cmp}
use Rattle.eql_values.specs.Totals.{order_cmp_total, slot_cmp_total}
use Rattle.eql_laws.specs.Apart.{item_order, ending_of, ShareNoKey, RepeatNoKey}
use Rattle.eql_laws.specs.Merging.{ending_cmp}
use Rattle.eql_laws.specs.Totals.{ending_cmp_total}

module _ {X : Type 0} (R : X → X → Ordering) where
  -- the value comes before each of these
  abbrev pub StandsFirst : X → List X → Type 0
  StandsFirst x [] = Unit {0}
  StandsFirst x (y ∷ ys) = (R x y ≡ Less) × StandsFirst x ys

  -- the values ascend strictly
  abbrev pub Ascends : List X → Type 0
  Ascends [] = Unit {0}
  Ascends (x ∷ xs) = StandsFirst x xs × Ascends xs

  -- no value of the one list has the rank of one of the other
  abbrev pub HaveNoTie : List X → List X → Type 0
  HaveNoTie = ShareNoKey R (λ x. x)

  -- no rank is in two of the lists
  abbrev pub HaveNoTies : List (List X) → Type 0
  HaveNoTies = RepeatNoKey R (λ x. x)

  -- a test that values of one rank alone pass
  abbrev pub IsOfOneRank : (X → Bool) → Type 0
  IsOfOneRank test = (x y : X) → test x ≡ true → test y ≡ true → R x y ≡ Equal

  -- of each rank the lists have the same first value
  abbrev pub HaveSameFirsts : List X → List X → Type 0
  HaveSameFirsts xs ys = (test : X → Bool) → IsOfOneRank test → find test xs ≡ find test ys

-- events by their places
abbrev pub item_rank : Item → Item → Ordering
item_rank = on item_order order_cmp

pub item_rank_total : IsTotalOrder item_rank
item_rank_total = on_total item_order order_cmp_total

-- matches by last event, then by key
abbrev pub match_rank : Match → Match → Ordering
match_rank = on ending_of ending_cmp

pub match_rank_total : IsTotalOrder match_rank
match_rank_total = on_total ending_of ending_cmp_total

-- the key and the stage of a pending sequence
abbrev pub slot_of : Holder → Slot
slot_of h = (h.key, h.stage)

-- pending sequences by key, then by stage
abbrev pub holder_rank : Holder → Holder → Ordering
holder_rank = on slot_of slot_cmp

pub holder_rank_total : IsTotalOrder holder_rank
holder_rank_total = on_total slot_of slot_cmp_total

-- no key and stage is in two of the lists
abbrev pub HoldersAreApart : List (List Holder) → Type 0
HoldersAreApart = RepeatNoKey slot_cmp slot_of
