use Rattle.eql_laws.proofs.Kept.{accepted_by_best as the_law}
use Rattle.eql_laws.proofs.lateness.accepted_by_best.Goals as goal

pub returns : goal.returns
returns c = the_law
