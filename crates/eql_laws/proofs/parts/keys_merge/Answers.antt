use Rattle.eql_laws.proofs.Merged.{keys_merge as the_law}
use Rattle.eql_laws.proofs.parts.keys_merge.Goals as goal

pub returns : goal.returns
returns c = the_law
