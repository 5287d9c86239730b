use Rattle.eql_laws.proofs.Merged.{keys_gather as the_law}
use Rattle.eql_laws.proofs.parts.keys_gather.Goals as goal

pub returns : goal.returns
returns c = the_law
