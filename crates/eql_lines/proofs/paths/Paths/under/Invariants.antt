use Rattle.eql_lines.proofs.Under.{Looked}
use Rattle.eql_lines.proofs.paths.Paths.under.Given as goal

abbrev pub invariant-loop-place : goal.invariant-loop-place
invariant-loop-place l = Looked l.self.paths.items l.active l.name l.left l.places l.at

abbrev pub decreases-loop-place : goal.decreases-loop-place
decreases-loop-place l = l.left.bits
