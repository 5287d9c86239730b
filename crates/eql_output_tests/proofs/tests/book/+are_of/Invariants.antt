use Rattle.std.proofs.Common.{◌+◌, length}
use Rattle.eql_output_tests.proofs.tests.book.+are_of.Given as goal

abbrev pub decreases-are_of : goal.decreases-are_of
decreases-are_of l = length l.pipes.now + length l.states.now
