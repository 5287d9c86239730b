-- The events of a chain.
use Rattle.std.specs.Prelude.{List, [], ◌∷◌}
use Rattle.eql_values.specs.declared.found.Events.{Events}
use Rattle.eql_values.specs.declared.found.Events.TheVariants as events
use Rattle.eql_values.specs.declared.order.OrderKey.{OrderKey}

-- one stands alone, or they stand in a list
abbrev pub events_of : Events → List OrderKey
events_of (events.One event) = event ∷ []
events_of (events.Many events) = events.items
