use Rattle.eql_laws.proofs.KeptBounds.{keys_fit as the_law}
use Rattle.eql_laws.proofs.bounds.keys_fit.Goals as goal

pub returns : goal.returns
returns c = the_law
