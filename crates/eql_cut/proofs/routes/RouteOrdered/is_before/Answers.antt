use Rattle.std.proofs.Common.{rules}
use Rattle.eql_cut.proofs.routes.RouteOrdered.is_before.Goals as goal

pub returns : goal.returns
returns c = search rules
