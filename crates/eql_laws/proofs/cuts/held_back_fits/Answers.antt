use Rattle.eql_laws.proofs.CutLemmas.{held_back_fits as the_law}
use Rattle.eql_laws.proofs.cuts.held_back_fits.Goals as goal

pub returns : goal.returns
returns c = the_law
