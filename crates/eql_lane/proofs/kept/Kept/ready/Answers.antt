use Rattle.std.proofs.Common.{arith}
use Rattle.eql_laws.proofs.CutLemmas.{filter_fewer}
use Rattle.eql_values.specs.Marks.{is_below}
use Rattle.eql_lane.proofs.kept.Kept.ready.Goals as goal

pub overflow_cast-result : goal.overflow_cast-result
overflow_cast-result c =
    let few = filter_fewer (is_below c.low.result) c.self.inside.held in
    let held = c.self.invariant.few in
    let fewer = c.self.invariant.fewer in
    let lines = c.self.invariant.within in
    omega (arith, c.count_below.ensures, few, held, fewer, lines)
