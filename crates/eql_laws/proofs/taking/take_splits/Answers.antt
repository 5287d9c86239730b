use Rattle.eql_laws.proofs.Handing.{take_splits as the_law}
use Rattle.eql_laws.proofs.taking.take_splits.Goals as goal

pub returns : goal.returns
returns c = the_law
