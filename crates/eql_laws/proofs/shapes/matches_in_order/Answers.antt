use Rattle.eql_laws.proofs.Merged.{matches_in_order as the_law}
use Rattle.eql_laws.proofs.shapes.matches_in_order.Goals as goal

pub returns : goal.returns
returns c = the_law
