use Rattle.eql_lane.specs.Slacks.{nanos_of}
use Rattle.eql_replay_tests.specs.Opens.{BeginAll, IsFreshAt}
use Rattle.eql_replay_tests.proofs.opening.fresh_lanes.Given as goal

abbrev pub invariant-loop-text : goal.invariant-loop-text
invariant-loop-text l = BeginAll (nanos_of l.slack) IsFreshAt l.lanes.items
