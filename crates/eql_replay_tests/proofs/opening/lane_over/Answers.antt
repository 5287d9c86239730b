use Rattle.eql_replay_tests.proofs.Begun.{begins_with}
use Rattle.eql_replay_tests.proofs.opening.lane_over.Goals as goal

pub returns-in-Ok : goal.returns-in-Ok
returns-in-Ok c = begins_with _ _ _ _ _ c.args.shard c.args.slack c.args.start c.in-Ok.lane c.in-Ok.ensures.made
