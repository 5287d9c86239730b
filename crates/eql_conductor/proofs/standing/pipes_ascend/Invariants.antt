use Rattle.std.specs.Prelude.{All, take}
use Rattle.eql_conductor.specs.Snaps.{PipeAscends}
use Rattle.eql_conductor.proofs.standing.pipes_ascend.Given as goal

abbrev pub invariant-loop-state : goal.invariant-loop-state
invariant-loop-state l = All PipeAscends (take l.state-index l.states)
