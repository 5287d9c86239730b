use Rattle.eql_outside.proofs.UnfailingLemmas.{unfailing}
use Rattle.eql_outside.proofs.laws.unfailing_stays.Goals as goal

pub returns : goal.returns
returns c = unfailing
