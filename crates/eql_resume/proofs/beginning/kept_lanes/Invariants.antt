use Rattle.std.proofs.Common.{◌≡◌, map, ◌++◌}
use Rattle.eql_lane.specs.declared.make.LaneStart.TheVariants.{From as FromCut}
use Rattle.eql_resume.proofs.beginning.kept_lanes.Given as goal

abbrev pub invariant-loop-lane : goal.invariant-loop-lane
invariant-loop-lane l = map FromCut l.fn.lanes ≡ l.starts.items ++ map FromCut l.lane-iterator.rest.items
