use Rattle.eql_laws.proofs.SafePlaces.{readable_goes_on as the_law}
use Rattle.eql_laws.proofs.places.readable_goes_on.Goals as goal

pub returns : goal.returns
returns c = the_law
