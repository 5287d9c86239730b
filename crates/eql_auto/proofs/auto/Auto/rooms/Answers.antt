use Rattle.std.proofs.Common.{arith}
use Rattle.eql_auto.proofs.Turning.{few_tags}
use Rattle.eql_auto.proofs.auto.Auto.rooms.Goals as goal

pub overflow_add-result : goal.overflow_add-result
overflow_add-result g c =
    let few = few_tags c.self.inside.table in
    let most = c.self.invariant.few in
    let counted = c.pending-pending.ensures in
    omega arith
