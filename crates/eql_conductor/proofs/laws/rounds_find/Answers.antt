use Rattle.eql_conductor.proofs.Found.{rounds_find}
use Rattle.eql_conductor.proofs.laws.rounds_find.Goals as goal

pub returns : goal.returns
returns c = rounds_find
