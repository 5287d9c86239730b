use Rattle.std.proofs.Common.{arith, FitsSigned}
use Rattle.std.specs.Int.{w128}
use Rattle.std.proofs.lemmas.Int.{to_z-of_z}
use Rattle.jiff_core.proofs.SignedLemmas.{signed_arith}
use Rattle.jiff_core.specs.DateTime.{civil_nanos}
use Rattle.eql_lines.proofs.Clocks.{since_epoch}
use Rattle.eql_lines.proofs.times.clock_nanos.Goals as goal

pub returns : goal.returns
returns c =
    let fits : FitsSigned w128 c.as_nanos.result = omega (arith, signed_arith, c.as_nanos.type_inv) in
    simp to_z-of_z (since_epoch c.as_nanos.result _ (civil_nanos c.args.civil) (civil_nanos c.to_datetime-epoch.result) c.as_nanos.ensures.value c.duration_since.ensures c.to_datetime-epoch.ensures)
