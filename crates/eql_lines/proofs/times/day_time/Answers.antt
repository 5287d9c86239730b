use Rattle.std.proofs.Common.{FitsSigned}
use Rattle.std.specs.Int.{w128}
use Rattle.std.proofs.lemmas.Int.{to_z-of_z}
use Rattle.eql_lines.proofs.Clocks.{civil_fits, day_is}
use Rattle.eql_lines.proofs.times.day_time.Goals as goal

pub returns-in-Ok : goal.returns-in-Ok
returns-in-Ok c =
    let fits : FitsSigned w128 c.clock_nanos.result = civil_fits c.clock_nanos.result c.from.result c.clock_nanos.ensures in
    simp to_z-of_z (day_is c.clock_nanos.result c.in-Ok.date c.from.result _ c.clock_nanos.ensures c.from.ensures.0 c.from.ensures.1 c.in-Ok.ensures.value)
