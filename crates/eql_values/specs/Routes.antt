-- The routes of an event in their order.
use Rattle.std.specs.Prelude.{Bool, not, ◌&&◌, ◌||◌, ◌==◌, List, map, IsTrue}
use Rattle.std.specs.List.{list_all}
use Rattle.std.specs.FinMap.Entries.{is_sorted}
use Rattle.eql_values.specs.declared.item.Route.{Route}
use Rattle.eql_values.specs.Orders.{key_cmp}

-- the routes ascend strictly by key
abbrev pub RoutesAreInOrder : List Route → Type 0
RoutesAreInOrder routes = IsTrue (is_sorted key_cmp (map (λ (r : Route). (r.key, r)) routes))

-- the route has a stage, or ends its key
abbrev pub says_something : Route → Bool
says_something route = not ((route.mask.low == 0) && (route.mask.high == 0)) || route.until

-- the routes ascend strictly by key, and each says something
abbrev pub RoutesStand : List Route → Type 0
RoutesStand routes = RoutesAreInOrder routes × IsTrue (list_all says_something routes)
