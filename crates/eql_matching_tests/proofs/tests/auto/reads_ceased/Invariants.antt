use Rattle.std.proofs.Common.{◌≡◌, length}
use Rattle.eql_matching_tests.proofs.tests.auto.reads_ceased.Given as goal

abbrev pub invariant-loop-tag : goal.invariant-loop-tag
invariant-loop-tag g l = l.machine.slots ≡ l.fn.machine.slots

abbrev pub decreases-loop-tag : goal.decreases-loop-tag
decreases-loop-tag g l = length l.machine.gone
