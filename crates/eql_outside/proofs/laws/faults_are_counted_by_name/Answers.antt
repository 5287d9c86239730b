use Rattle.eql_outside.proofs.FaultLemmas.{roses}
use Rattle.eql_outside.proofs.laws.faults_are_counted_by_name.Goals as goal

pub returns : goal.returns
returns c = roses
