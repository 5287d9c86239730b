use Rattle.std.proofs.Common.{length}
use Rattle.eql_summary.proofs.LineLemmas.{GoneOver}
use Rattle.eql_summary.proofs.ends.Ends.of.Given as goal

abbrev pub invariant-loop-line : goal.invariant-loop-line
invariant-loop-line l = GoneOver l.text l.rest l.ends

abbrev pub decreases-loop-line : goal.decreases-loop-line
decreases-loop-line l = length l.rest
