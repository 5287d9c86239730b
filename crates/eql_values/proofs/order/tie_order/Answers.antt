use Rattle.std.proofs.Common.{rules}
use Rattle.eql_values.proofs.order.tie_order.Goals as goal

pub returns-in-Some-None : goal.returns-in-Some-None
returns-in-Some-None c = search rules
