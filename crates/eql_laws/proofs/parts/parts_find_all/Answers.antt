use Rattle.eql_laws.proofs.PartsWhole.{parts_find_all as the_law}
use Rattle.eql_laws.proofs.parts.parts_find_all.Goals as goal

pub returns : goal.returns
returns c = the_law
