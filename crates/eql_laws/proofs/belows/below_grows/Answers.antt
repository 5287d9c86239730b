use Rattle.eql_laws.proofs.BelowLemmas.{below_grows as the_law}
use Rattle.eql_laws.proofs.belows.below_grows.Goals as goal

pub returns : goal.returns
returns c = the_law
