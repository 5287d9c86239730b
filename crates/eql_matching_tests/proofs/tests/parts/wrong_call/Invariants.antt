use Rattle.std.proofs.Common.{◌≡◌}
use Rattle.eql_matching_tests.proofs.tests.parts.wrong_call.Given as goal

abbrev pub invariant-loop-number : goal.invariant-loop-number
invariant-loop-number g l = l.seen.last ≡ l.part.state.last
