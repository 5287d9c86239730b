use Rattle.std.proofs.Common.{◌≡◌, ◌≤◌, ◌-◌}
use Rattle.eql_outside.specs.Unfailing.{IsUnfailing}
use Rattle.eql_lane.specs.Passing.{PassesOver, ReadsOver}
use Rattle.eql_lane.proofs.pass.pass_over.Given as goal

abbrev pub invariant-loop-passed : goal.invariant-loop-passed
invariant-loop-passed g l = record {
  few : l.passed ≤ l.count;
  read : ReadsOver (g.S.Source.left l.initial.source) l.passed l.initial.trace l.trace;
  over : PassesOver g.S.Source.left g.S.Source.lent_as l.passed l.initial.source l.source;
  unfailing : IsUnfailing (g.S.Source.fault_plan l.initial.source) → IsUnfailing (g.S.Source.fault_plan l.source);
  steady : g.S.Source.fault_count l.source ≡ g.S.Source.fault_count l.initial.source;
}

abbrev pub decreases-loop-passed : goal.decreases-loop-passed
decreases-loop-passed g l = l.count - l.passed
