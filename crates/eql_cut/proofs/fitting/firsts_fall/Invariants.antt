use Rattle.std.proofs.Common.{◌≡◌, length}
use Rattle.eql_cut.specs.Fitting.{firsts_fall}
use Rattle.eql_cut.proofs.fitting.firsts_fall.Given as goal

abbrev pub invariant-loop-left : goal.invariant-loop-left
invariant-loop-left l = firsts_fall l.left ≡ firsts_fall l.holders

abbrev pub decreases-loop-left : goal.decreases-loop-left
decreases-loop-left l = length l.left
