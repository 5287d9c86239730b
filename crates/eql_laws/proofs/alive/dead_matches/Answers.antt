use Rattle.eql_laws.proofs.LeftOut.{dead_matches as the_law}
use Rattle.eql_laws.proofs.alive.dead_matches.Goals as goal

pub returns : goal.returns
returns c = the_law
