use Rattle.eql_cut.proofs.OldPlaces.{first_format}
use Rattle.eql_cut.proofs.keeping.first_format_has_no_places.Goals as goal

pub returns : goal.returns
returns c = first_format
