use Rattle.eql_laws.proofs.KeptBounds.{times_fit as the_law}
use Rattle.eql_laws.proofs.bounds.times_fit.Goals as goal

pub returns : goal.returns
returns c = the_law
