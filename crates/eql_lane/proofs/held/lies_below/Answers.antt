use Rattle.std.proofs.Common.{rules}
use Rattle.eql_lane.proofs.held.lies_below.Goals as goal

pub returns-in-At : goal.returns-in-At
returns-in-At c = search rules
