use Rattle.eql_laws.proofs.PartMatches.{own_holders as the_law}
use Rattle.eql_laws.proofs.parts.own_holders.Goals as goal

pub returns : goal.returns
returns c = the_law
