use Rattle.std.proofs.Common.{length}
use Rattle.eql_matching_tests.proofs.tests.merge.+are_apart.Given as goal

abbrev pub decreases-are_apart : goal.decreases-are_apart
decreases-are_apart l = length l.lists.now
