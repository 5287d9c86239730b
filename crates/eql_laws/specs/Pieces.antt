-- Laws of pieces of lists of events: what a part, a beginning or a rest keeps of the order and the times of the whole.
use Rattle.std.specs.Prelude.{◌≡◌, ◌≤◌, ℕ, ℤ, ◌≤ℤ◌, List, ◌++◌, Option, length}
use Rattle.eql_values.specs.declared.order.OrderKey.{OrderKey}
use Rattle.eql_values.specs.declared.order.Mark.{Mark}
use Rattle.eql_values.specs.declared.order.Mark.TheVariants.{At}
use Rattle.eql_values.specs.declared.value.Value.{Value}
use Rattle.eql_values.specs.declared.item.Item.{Item}
use Rattle.eql_values.specs.Accepted.{Reads}
use Rattle.eql_values.specs.Ascending.{AllAreAfter, Ascend}
use Rattle.eql_values.specs.Routing.{routed_items}
use Rattle.eql_laws.specs.Alive.{ItemsComeFrom}
use Rattle.eql_laws.specs.Belows.{between}

-- the items of a part: those of two lists one after the other, no more than all, and ascending where all ascend
pub record RoutedKeeps (part : List Value → ℕ) (p : ℕ) : Type 0 where
  pub pieces : (a b : List Item) → routed_items part p (a ++ b) ≡ routed_items part p a ++ routed_items part p b
  pub fewer : (items : List Item) → length (routed_items part p items) ≤ length items
  pub ascends : (items : List Item) → Ascend items → Ascend (routed_items part p items)
  pub times : (t : ℤ) (items : List Item) → ItemsComeFrom t items → ItemsComeFrom t (routed_items part p items)

abbrev pub RoutedKeepsPieces : Type 0
RoutedKeepsPieces = (part : List Value → ℕ) (p : ℕ) → RoutedKeeps part p

-- items that come at a time or later: pieces of them do, and they come at each lesser time or later
pub record TimesKeep : Type 0 where
  pub pieces : (t : ℤ) (a b : List Item) → ItemsComeFrom t (a ++ b) → ItemsComeFrom t a × ItemsComeFrom t b
  pub lesser : (t u : ℤ) (items : List Item) → t ≤ℤ u → ItemsComeFrom u items → ItemsComeFrom t items

-- items after an event come at its time or later
abbrev pub TimesComeAfter : Type 0
TimesComeAfter = (event : OrderKey) (items : List Item) → AllAreAfter event items → ItemsComeFrom event.ts items

-- and what lies from a mark on comes at the mark's time or later
abbrev pub TimesComeBetween : Type 0
TimesComeBetween = (reads : Reads) (slack : Option ℤ) (texts : List (List ℕ)) (t : ℤ) (to : Mark) → ItemsComeFrom t (between reads slack texts (At t) to)
