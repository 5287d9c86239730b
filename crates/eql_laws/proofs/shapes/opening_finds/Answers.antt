use Rattle.eql_laws.proofs.Falling.{opening_finds as the_law}
use Rattle.eql_laws.proofs.shapes.opening_finds.Goals as goal

pub returns : goal.returns
returns c = the_law
