use Rattle.eql_laws.proofs.LeftOut.{dead_alike as the_law}
use Rattle.eql_laws.proofs.alive.dead_alike.Goals as goal

pub returns : goal.returns
returns c = the_law
