use Rattle.std.proofs.Common.{◌≡◌, []}
use Rattle.eql_matching_tests.proofs.tests.auto.drops_old.Given as goal

abbrev pub invariant-loop-reach : goal.invariant-loop-reach
invariant-loop-reach g l = l.machine.gone ≡ []
