use Rattle.std.proofs.Common.{◌≡◌}
use Rattle.eql_matching_tests.proofs.tests.parts.plays.Given as goal

abbrev pub invariant-loop : goal.invariant-loop
invariant-loop g l = l.part.state.last ≡ l.fn.part.state.last
