use Rattle.eql_laws.proofs.PartsWhole.{parts_gather as the_law}
use Rattle.eql_laws.proofs.parts.parts_gather.Goals as goal

pub returns : goal.returns
returns c = the_law
