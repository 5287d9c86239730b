use Rattle.std.proofs.Common.{◌≡◌, ◌+◌, ◌*◌, pos, length}
use Rattle.eql_cut.specs.Fitting.{lanes_fit}
use Rattle.eql_cut.proofs.fitting.Bounds.lanes_fit.Given as goal

abbrev pub invariant-loop-left : goal.invariant-loop-left
invariant-loop-left l =
    (l.shard + length l.left ≡ length l.lanes)
    × (lanes_fit l.self.stages l.self.keys (pos (l.self.slack * 1000000)) l.self.mark l.shard l.left
    ≡ lanes_fit l.self.stages l.self.keys (pos (l.self.slack * 1000000)) l.self.mark 0 l.lanes)

abbrev pub decreases-loop-left : goal.decreases-loop-left
decreases-loop-left l = length l.left
