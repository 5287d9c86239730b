use Rattle.std.proofs.Common.{◌≡◌, map, ◌++◌}
use Rattle.eql_lane.specs.declared.make.LaneStart.TheVariants.{Retrace}
use Rattle.eql_resume.proofs.beginning.retraced_lanes.Given as goal

abbrev pub invariant-loop-lane : goal.invariant-loop-lane
invariant-loop-lane l = map Retrace l.fn.lanes ≡ l.starts.items ++ map Retrace l.lane-iterator.rest.items
