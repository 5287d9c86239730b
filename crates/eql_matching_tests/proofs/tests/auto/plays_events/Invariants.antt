use Rattle.std.proofs.Common.{◌≡◌, []}
use Rattle.std.specs.List.{All}
use Rattle.eql_values.specs.declared.order.OrderKey.{OrderKey}
use Rattle.eql_auto.specs.Machine.{ComesAfter}
use Rattle.eql_matching_tests.specs.Played.{IsAfterLast}
use Rattle.eql_matching_tests.proofs.tests.auto.plays_events.Given as goal

abbrev pub invariant-loop-key_event : goal.invariant-loop-key_event
invariant-loop-key_event g l = (l.machine.gone ≡ []) × ((next : OrderKey) → IsAfterLast l.last next → All (ComesAfter next) l.machine.slots)
