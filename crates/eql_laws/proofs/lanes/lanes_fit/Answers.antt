use Rattle.eql_laws.proofs.KeptLanes.{lanes_of_fit as the_law}
use Rattle.eql_laws.proofs.lanes.lanes_fit.Goals as goal

pub returns : goal.returns
returns c = the_law
