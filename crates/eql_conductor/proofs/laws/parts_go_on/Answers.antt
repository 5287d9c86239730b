use Rattle.eql_conductor.proofs.Parting.{turn_keeps_part, deliver_moves_part, collect_moves_part}
use Rattle.eql_conductor.proofs.laws.parts_go_on.Goals as goal

pub returns-clause-turns : goal.returns-clause-turns
returns-clause-turns c = turn_keeps_part

pub returns-clause-deliveries : goal.returns-clause-deliveries
returns-clause-deliveries c = deliver_moves_part

pub returns-clause-collections : goal.returns-clause-collections
returns-clause-collections c = collect_moves_part
