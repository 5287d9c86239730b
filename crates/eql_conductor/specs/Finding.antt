-- What all parts find and keep in a round, put together.
use Rattle.std.specs.Prelude.{◌≡◌, ℕ, List, map, All}
use Rattle.eql_values.specs.declared.item.Item.{Item}
use Rattle.eql_values.specs.declared.found.Match.{Match}
use Rattle.eql_values.specs.declared.found.Holder.{Holder}
use Rattle.eql_values.specs.Ascending.{Ascend}
use Rattle.eql_values.specs.Matching.{after, matches}
use Rattle.eql_values.specs.Ordered.{numbers}
use Rattle.eql_values.specs.Routing.{routed_items}
use Rattle.eql_laws.specs.Apart.{joined_lists, AreInMatchOrder, MatchesAreApart}
use Rattle.eql_laws.specs.Merging.{in_match_order}
use Rattle.eql_laws.specs.Parts.{holders_in}
use Rattle.eql_parts.specs.PartSteps.{Rules}
use Rattle.eql_parts.specs.Spreading.{part_number}

-- the pending sequences of a part's keys
abbrev pub own_of : List Holder → ℕ → List Holder
own_of all p = holders_in part_number p all

-- what a part finds by its own events of these, from its own pending sequences of these on
abbrev pub found_of : Rules → (all : List Holder) (items : List Item) → ℕ → List Match
found_of rules all items p = matches rules.stages rules.span (own_of all p) (routed_items part_number p items)

-- what the sixteen parts find by ascending events: their lists may be merged, and merged they are the matches by all events; and after them
-- each part has its own of what is pending then
pub record RoundFinds (rules : Rules) (all : List Holder) (items : List Item) : Type 0 where
  pub in_order : All AreInMatchOrder (map (found_of rules all items) (numbers 16))
  pub apart : MatchesAreApart (map (found_of rules all items) (numbers 16))
  pub merged : in_match_order (joined_lists (map (found_of rules all items) (numbers 16))) ≡ matches rules.stages rules.span all items
  pub own_then : (p : ℕ) → after rules.stages rules.span (own_of all p) (routed_items part_number p items) ≡ own_of (after rules.stages rules.span all items) p

abbrev pub RoundsFind : Type 0
RoundsFind = (rules : Rules) (all : List Holder) (items : List Item) → Ascend items → RoundFinds rules all items
