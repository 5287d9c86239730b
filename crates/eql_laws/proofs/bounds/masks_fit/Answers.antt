use Rattle.eql_laws.proofs.KeptBounds.{masks_fit as the_law}
use Rattle.eql_laws.proofs.bounds.masks_fit.Goals as goal

pub returns : goal.returns
returns c = the_law
