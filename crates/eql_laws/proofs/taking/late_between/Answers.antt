use Rattle.eql_laws.proofs.Handing.{late_between as the_law}
use Rattle.eql_laws.proofs.taking.late_between.Goals as goal

pub returns : goal.returns
returns c = the_law
