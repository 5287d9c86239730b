use Rattle.std.proofs.Common.{length}
use Rattle.eql_check.proofs.calls.+are_asked.Given as goal

abbrev pub decreases-are_asked : goal.decreases-are_asked
decreases-are_asked l = length l.asked.now
