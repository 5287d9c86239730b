use Rattle.std.proofs.Common.{◌≡◌, length}
use Rattle.eql_values.specs.Adjacent.{ascends_next}
use Rattle.eql_cut.specs.Ordered.{with_itself}
use Rattle.eql_cut.proofs.ordered.ascends.Given as goal

abbrev pub invariant-loop-left : goal.invariant-loop-left
invariant-loop-left g l = ascends_next g.T.Ordered.rank (with_itself l.left) ≡ ascends_next g.T.Ordered.rank (with_itself l.items)

abbrev pub decreases-loop-left : goal.decreases-loop-left
decreases-loop-left g l = length l.left
