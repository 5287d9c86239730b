use Rattle.eql_lane.proofs.Beginnings as laws
use Rattle.eql_lane.proofs.laws.places_have_lines.Goals as goal

pub returns : goal.returns
returns c = laws.places_have_lines
