use Rattle.eql_laws.proofs.PartMatches.{routed_matches as the_law}
use Rattle.eql_laws.proofs.parts.matches_routed.Goals as goal

pub returns : goal.returns
returns c = the_law
