use Rattle.std.proofs.Common.{◌≡◌, ◌++◌, map, take}
use Rattle.eql_lookback.specs.RoutedEvents.{routed_event_of}
use Rattle.eql_lookback.proofs.routed_event.add_routed_events.Given as goal

abbrev pub invariant-loop-route : goal.invariant-loop-route
invariant-loop-route l = l.all.items ≡ l.initial.all.items ++ map (routed_event_of l.order) (take l.route-index l.route-items)
