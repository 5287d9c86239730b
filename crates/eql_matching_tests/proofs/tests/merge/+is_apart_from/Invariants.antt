use Rattle.std.proofs.Common.{length}
use Rattle.eql_matching_tests.proofs.tests.merge.+is_apart_from.Given as goal

abbrev pub decreases-is_apart_from : goal.decreases-is_apart_from
decreases-is_apart_from l = length l.lists.now
