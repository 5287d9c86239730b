use Rattle.eql_laws.proofs.EventLemmas.{after_none as the_law}
use Rattle.eql_laws.proofs.one_event.after_none.Goals as goal

pub returns : goal.returns
returns c = the_law
