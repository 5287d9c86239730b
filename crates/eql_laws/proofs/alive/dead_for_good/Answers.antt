use Rattle.eql_laws.proofs.LeftOut.{dead_for_good as the_law}
use Rattle.eql_laws.proofs.alive.dead_for_good.Goals as goal

pub returns : goal.returns
returns c = the_law
