use Rattle.std.proofs.Common.{◌≡◌, length, arith}
use Rattle.std.proofs.lemmas.Grind.{common_steps}
use Rattle.eql_lane.specs.Slacks.{nanos_of}
use Rattle.eql_replay_tests.specs.Opens.{IsFreshAt}
use Rattle.eql_replay_tests.proofs.Begun.{begin_more, begins_as}
use Rattle.eql_replay_tests.proofs.opening.fresh_lanes.Goals as goal

pub loop-text-preserved : goal.loop-text-preserved
loop-text-preserved c =
    let at : c.in_ok-shard.shard ≡ length c.loop-text.lanes.items = grind (arith, common_steps, c.in_ok-shard.ensures, c.len.ensures) in
    begin_more (nanos_of c.args.slack) IsFreshAt c.loop-text.lanes.items c.push.new.self.items c.in_ok-lane.lane c.loop-text.invariant
    (begins_as (nanos_of c.args.slack) _ (IsFreshAt (length c.loop-text.lanes.items)) _ _ c.in_ok-lane.lane c.in_ok-lane.ensures at (λ cut is. is))
    c.in_ok-push.ensures.items
