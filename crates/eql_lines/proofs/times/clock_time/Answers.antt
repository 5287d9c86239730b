use Rattle.std.proofs.Common.{FitsSigned}
use Rattle.std.specs.Int.{w128}
use Rattle.std.proofs.lemmas.Int.{to_z-of_z}
use Rattle.eql_lines.proofs.Clocks.{civil_fits, clock_is}
use Rattle.eql_lines.proofs.times.clock_time.Goals as goal

pub returns-in-Ok : goal.returns-in-Ok
returns-in-Ok c =
    let fits : FitsSigned w128 c.clock_nanos.result = civil_fits c.clock_nanos.result c.in-Ok.civil c.clock_nanos.ensures in
    simp to_z-of_z (clock_is c.clock_nanos.result c.in-Ok.civil _ c.clock_nanos.ensures c.in-Ok.ensures.value)
