use Rattle.std.proofs.Common.{◌≡◌, length, Some}
use Rattle.eql_lane.specs.Slacks.{nanos_of}
use Rattle.eql_replay_tests.specs.Opens.{BeginAll, StandsAt}
use Rattle.eql_replay_tests.proofs.opening.lanes_from.Given as goal

abbrev pub invariant-loop-cut : goal.invariant-loop-cut
invariant-loop-cut l = record {
  begin : BeginAll (nanos_of (Some l.slack)) (StandsAt l.cuts) l.lanes.items;
  count : length l.lanes.items ≡ l.cut-index;
}
