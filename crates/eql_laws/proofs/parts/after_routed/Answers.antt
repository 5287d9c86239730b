use Rattle.eql_laws.proofs.PartMatches.{after_routed as the_law}
use Rattle.eql_laws.proofs.parts.after_routed.Goals as goal

pub returns : goal.returns
returns c = the_law
