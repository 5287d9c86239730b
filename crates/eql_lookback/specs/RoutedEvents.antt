-- What items say to the machines of their keys, in one list.
use Rattle.std.specs.Prelude.{if◌then◌else◌, List, [], ◌∷◌, map}
use Rattle.std.specs.List.{flat_map}
use Rattle.eql_values.specs.declared.order.OrderKey.{OrderKey}
use Rattle.eql_values.specs.declared.value.Value.{Value}
use Rattle.eql_values.specs.declared.item.KeyEvent.{KeyEvent}
use Rattle.eql_values.specs.declared.item.Route.{Route}
use Rattle.eql_values.specs.declared.item.Item.{Item}
use Rattle.eql_values.specs.Orders.{key_eq}
use Rattle.eql_values.specs.Matching.{key_event_by}
use Rattle.eql_lookback.specs.declared.routed_event.RoutedEvent.{RoutedEvent}

-- what an item says by one of its routes, with the key
abbrev pub routed_event_of : OrderKey → Route → RoutedEvent
routed_event_of order route = record { key = route.key; key_event = key_event_by order route }

-- what an item says, route by route
abbrev pub routed_events_of : Item → List RoutedEvent
routed_events_of item = map (routed_event_of item.order) item.routes

-- what all items say
abbrev pub routed_events : List Item → List RoutedEvent
routed_events = flat_map routed_events_of

-- of what was said, that to this key
abbrev pub to_key : List Value → List RoutedEvent → List KeyEvent
to_key key [] = []
to_key key (one ∷ past) = if key_eq key one.key then one.key_event ∷ to_key key past else to_key key past

-- what is said put before a past, the latest first
abbrev pub back_over : List RoutedEvent → List RoutedEvent → List RoutedEvent
back_over [] past = past
back_over (one ∷ all) past = back_over all (one ∷ past)
