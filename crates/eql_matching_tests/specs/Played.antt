-- Events that come one after another, as the tests play them.
use Rattle.std.specs.Prelude.{◌≡◌, Option, Some, None}
use Rattle.std.specs.declared.cmp.Ordering.TheVariants.{Less}
use Rattle.eql_values.specs.declared.order.OrderKey.{OrderKey}
use Rattle.eql_values.specs.OrderKeys.{order_cmp}

-- the event comes after the last one, where there was one
abbrev pub IsAfterLast : Option OrderKey → OrderKey → Type 0
IsAfterLast None event = Unit {0}
IsAfterLast (Some last) event = order_cmp last event ≡ Less
