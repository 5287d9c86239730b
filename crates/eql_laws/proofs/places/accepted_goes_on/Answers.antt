use Rattle.eql_laws.proofs.SafePlaces.{accepted_goes_on as the_law}
use Rattle.eql_laws.proofs.places.accepted_goes_on.Goals as goal

pub returns : goal.returns
returns c = the_law
