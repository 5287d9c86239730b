-- Events in their order.
use Rattle.std.specs.Prelude.{◌≡◌, List, [], ◌∷◌}
use Rattle.std.specs.declared.cmp.Ordering.TheVariants.{Less}
use Rattle.eql_values.specs.declared.order.OrderKey.{OrderKey}
use Rattle.eql_values.specs.declared.item.Item.{Item}
use Rattle.eql_values.specs.OrderKeys.{order_cmp}
use Rattle.eql_values.specs.Routes.{RoutesAreInOrder}

-- each of the items comes after this event
abbrev pub AllAreAfter : OrderKey → List Item → Type 0
AllAreAfter event [] = Unit {0}
AllAreAfter event (item ∷ items) = (order_cmp event item.order ≡ Less) × AllAreAfter event items

-- the items ascend strictly, and the routes of each by key
abbrev pub Ascend : List Item → Type 0
Ascend [] = Unit {0}
Ascend (item ∷ items) = RoutesAreInOrder item.routes × AllAreAfter item.order items × Ascend items
