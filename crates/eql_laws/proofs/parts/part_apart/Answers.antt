use Rattle.eql_laws.proofs.PartMatches.{part_apart as the_law}
use Rattle.eql_laws.proofs.parts.part_apart.Goals as goal

pub returns : goal.returns
returns c = the_law
