use Rattle.eql_laws.proofs.CutLemmas.{routes_stay as the_law}
use Rattle.eql_laws.proofs.cuts.routes_stay.Goals as goal

pub returns : goal.returns
returns c = the_law
