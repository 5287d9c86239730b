use Rattle.eql_laws.proofs.PartMatches.{opening_in as the_law}
use Rattle.eql_laws.proofs.parts.part_looks_up.Goals as goal

pub returns : goal.returns
returns c = the_law
