use Rattle.std.proofs.Common.{◌≡◌, take}
use Rattle.eql_lookback.specs.RoutedEvents.{routed_events}
use Rattle.eql_lookback.proofs.routed_event.routed_events_in.Given as goal

abbrev pub invariant-loop-item : goal.invariant-loop-item
invariant-loop-item l = l.all.items ≡ routed_events (take l.item-index l.items)
