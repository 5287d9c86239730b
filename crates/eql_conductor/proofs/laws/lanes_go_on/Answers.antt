use Rattle.eql_conductor.proofs.Laning.{feed_keeps_lane, take_moves_lane}
use Rattle.eql_conductor.proofs.laws.lanes_go_on.Goals as goal

pub returns-clause-feeds : goal.returns-clause-feeds
returns-clause-feeds c = feed_keeps_lane

pub returns-clause-takes : goal.returns-clause-takes
returns-clause-takes c = take_moves_lane
