-- Lists that have no key in common: what may be merged.
use Rattle.std.specs.Prelude.{◌≡◌, Bool, true, false, List, [], ◌∷◌, map, IsTrue}
use Rattle.std.specs.List.{list_any, flat_map}
use Rattle.std.specs.Ordering.{eq_by_cmp}
use Rattle.std.specs.FinMap.Entries.{is_sorted}
use Rattle.std.specs.declared.cmp.Ordering.{Ordering}
use Rattle.eql_values.specs.declared.order.OrderKey.{OrderKey}
use Rattle.eql_values.specs.declared.item.Item.{Item}
use Rattle.eql_values.specs.declared.found.Match.{Match}
use Rattle.eql_values.specs.OrderKeys.{order_cmp}
use Rattle.eql_laws.specs.Merging.{Ending, ending_cmp, by_ending}

-- the lists, one after another
abbrev pub joined_lists : {X : Type 0} → List (List X) → List X
joined_lists {X} = flat_map (λ (xs : List X). xs)

module _ {X K : Type 0} (R : K → K → Ordering) (key : X → K) where
  -- one of the values has this key
  abbrev pub has_key : K → List X → Bool
  has_key k xs = list_any (λ (x : X). eq_by_cmp R k (key x)) xs

  -- no key is in both lists
  abbrev pub ShareNoKey : List X → List X → Type 0
  ShareNoKey xs ys = (k : K) → has_key k xs ≡ true → has_key k ys ≡ false

  -- no key is in this list and in one of those
  abbrev pub SharesNoKey : List X → List (List X) → Type 0
  SharesNoKey xs [] = Unit {0}
  SharesNoKey xs (ys ∷ lists) = ShareNoKey xs ys × SharesNoKey xs lists

  -- no key is in two of the lists
  abbrev pub RepeatNoKey : List (List X) → Type 0
  RepeatNoKey [] = Unit {0}
  RepeatNoKey (xs ∷ lists) = SharesNoKey xs lists × RepeatNoKey lists

-- the place of an item in the order of events
abbrev pub item_order : Item → OrderKey
item_order item = item.order

-- one of the items stands at this place
abbrev pub has_place : OrderKey → List Item → Bool
has_place = has_key order_cmp item_order

-- no place is in both lists
abbrev pub AreApart : List Item → List Item → Type 0
AreApart = ShareNoKey order_cmp item_order

-- no place is in this list and in one of those
abbrev pub IsApartFrom : List Item → List (List Item) → Type 0
IsApartFrom = SharesNoKey order_cmp item_order

-- no place is in two of the lists
abbrev pub AllAreApart : List (List Item) → Type 0
AllAreApart = RepeatNoKey order_cmp item_order

-- the last event and the key of a match
abbrev pub ending_of : Match → Ending
ending_of m = (by_ending m).0

-- the matches ascend strictly by last event, and then by key
abbrev pub AreInMatchOrder : List Match → Type 0
AreInMatchOrder found = IsTrue (is_sorted ending_cmp (map by_ending found))

-- no last event and key is in two of the lists
abbrev pub MatchesAreApart : List (List Match) → Type 0
MatchesAreApart = RepeatNoKey ending_cmp ending_of
