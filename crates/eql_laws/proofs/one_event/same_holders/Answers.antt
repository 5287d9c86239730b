use Rattle.eql_laws.proofs.EventLemmas.{same_holders as the_law}
use Rattle.eql_laws.proofs.one_event.same_holders.Goals as goal

pub returns : goal.returns
returns c = the_law
