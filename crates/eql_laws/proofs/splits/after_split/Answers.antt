use Rattle.eql_laws.proofs.Splitting.{after_split as the_law}
use Rattle.eql_laws.proofs.splits.after_split.Goals as goal

pub returns : goal.returns
returns c = the_law
