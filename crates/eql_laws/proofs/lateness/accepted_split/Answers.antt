use Rattle.eql_laws.proofs.Kept.{accepted_split as the_law}
use Rattle.eql_laws.proofs.lateness.accepted_split.Goals as goal

pub returns : goal.returns
returns c = the_law
