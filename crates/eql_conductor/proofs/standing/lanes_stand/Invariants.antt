use Rattle.std.specs.Prelude.{All, take}
use Rattle.eql_conductor.specs.Snaps.{LaneStands}
use Rattle.eql_conductor.proofs.standing.lanes_stand.Given as goal

abbrev pub invariant-loop-lane : goal.invariant-loop-lane
invariant-loop-lane l = All LaneStands (take l.lane-index l.lanes)
