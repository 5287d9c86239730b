use Rattle.eql_laws.proofs.Kept.{late_by_best as the_law}
use Rattle.eql_laws.proofs.lateness.late_by_best.Goals as goal

pub returns : goal.returns
returns c = the_law
