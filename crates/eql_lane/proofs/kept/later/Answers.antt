use Rattle.std.proofs.Common.{rules}
use Rattle.eql_lane.proofs.kept.later.Goals as goal

pub returns-else-ts-best : goal.returns-else-ts-best
returns-else-ts-best c = search rules
