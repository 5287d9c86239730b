use Rattle.eql_laws.proofs.Kept.{none_comes_below as the_law}
use Rattle.eql_laws.proofs.lateness.none_comes_below.Goals as goal

pub returns : goal.returns
returns c = the_law
