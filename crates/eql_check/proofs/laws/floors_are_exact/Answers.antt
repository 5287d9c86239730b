use Rattle.eql_check.proofs.Floors.{floors}
use Rattle.eql_check.proofs.laws.floors_are_exact.Goals as goal

pub returns : goal.returns
returns c = floors
