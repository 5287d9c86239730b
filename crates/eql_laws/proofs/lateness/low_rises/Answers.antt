use Rattle.eql_laws.proofs.Kept.{low_rises as the_law}
use Rattle.eql_laws.proofs.lateness.low_rises.Goals as goal

pub returns : goal.returns
returns c = the_law
