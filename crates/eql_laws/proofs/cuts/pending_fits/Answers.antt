use Rattle.eql_laws.proofs.CutLemmas.{pending_fits as the_law}
use Rattle.eql_laws.proofs.cuts.pending_fits.Goals as goal

pub returns : goal.returns
returns c = the_law
