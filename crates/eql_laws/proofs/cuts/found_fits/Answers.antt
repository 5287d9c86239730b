use Rattle.eql_laws.proofs.CutLemmas.{found_fits as the_law}
use Rattle.eql_laws.proofs.cuts.found_fits.Goals as goal

pub returns : goal.returns
returns c = the_law
