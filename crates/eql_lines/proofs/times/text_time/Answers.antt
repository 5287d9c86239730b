use Rattle.std.proofs.Common.{None, ap, ◌∙◌, arith, FitsSigned}
use Rattle.std.specs.Int.{w128}
use Rattle.std.proofs.lemmas.Int.{to_z-of_z}
use Rattle.jiff_core.proofs.SignedLemmas.{signed_arith}
use Rattle.eql_lines.proofs.Clocks.{instant_is, lack_is}
use Rattle.eql_lines.specs.Times.{by_lack}
use Rattle.eql_lines.proofs.times.text_time.Goals as goal

pub returns-in-Ok : goal.returns-in-Ok
returns-in-Ok c =
    let fits : FitsSigned w128 c.as_nanosecond.result = omega (arith, signed_arith, c.as_nanosecond.type_inv) in
    simp to_z-of_z (instant_is c.as_nanosecond.result c.in-Ok.instant.nanosecond c.args.text.now c.as_nanosecond.ensures c.in-Ok.ensures.value)

pub returns-in-Offset : goal.returns-in-Offset
returns-in-Offset c =
    lack_is c.in-Err.error c.args.text.now c.clock_time.result (c.clock_time.ensures ∙ ap (λ l. by_lack l c.args.text.now) c.in-Offset.ensures) c.in-Err.ensures.value

pub returns-in-Time : goal.returns-in-Time
returns-in-Time c =
    lack_is c.in-Err.error c.args.text.now c.day_time.result (c.day_time.ensures ∙ ap (λ l. by_lack l c.args.text.now) c.in-Time.ensures) c.in-Err.ensures.value

pub returns-in-Other : goal.returns-in-Other
returns-in-Other c =
    lack_is c.in-Err.error c.args.text.now None (ap (λ l. by_lack l c.args.text.now) c.in-Other.ensures) c.in-Err.ensures.value
