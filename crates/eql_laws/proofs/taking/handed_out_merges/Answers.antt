use Rattle.eql_laws.proofs.Aparts.{handed_out_merges as the_law}
use Rattle.eql_laws.proofs.taking.handed_out_merges.Goals as goal

pub returns : goal.returns
returns c = the_law
