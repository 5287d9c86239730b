use Rattle.std.proofs.Common.{◌≡◌, length}
use Rattle.eql_cut.specs.Fitting.{states_fit}
use Rattle.eql_cut.proofs.fitting.Bounds.states_fit.Given as goal

abbrev pub invariant-loop-left : goal.invariant-loop-left
invariant-loop-left l =
    states_fit l.self.stages l.self.keys l.self.shards l.found l.left l.seen ≡ states_fit l.self.stages l.self.keys l.self.shards l.found l.pipes l.states

abbrev pub decreases-loop-left : goal.decreases-loop-left
decreases-loop-left l = length l.left
