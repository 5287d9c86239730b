use Rattle.eql_laws.proofs.LeftOut.{dead_after as the_law}
use Rattle.eql_laws.proofs.alive.dead_after.Goals as goal

pub returns : goal.returns
returns c = the_law
