use Rattle.std.specs.Prelude.{◌≡◌, ◌==◌, filter, take}
use Rattle.eql_values.specs.declared.item.Route.{Route}
use Rattle.eql_parts.specs.Spreading.{part_number}
use Rattle.eql_conductor.proofs.routing.own_routes.Given as goal

abbrev pub invariant-loop-i : goal.invariant-loop-i
invariant-loop-i l = l.own.items ≡ filter (λ (r : Route). part_number r.key == l.p) (take l.i l.routes.items)
