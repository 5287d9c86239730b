use Rattle.eql_laws.proofs.Handing.{held_back_grows as the_law}
use Rattle.eql_laws.proofs.taking.held_back_grows.Goals as goal

pub returns : goal.returns
returns c = the_law
