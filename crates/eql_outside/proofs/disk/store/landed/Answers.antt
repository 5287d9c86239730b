use Rattle.std.proofs.Common.{◌∙◌, length, ap, arith}
use Rattle.eql_outside.specs.Disks.{write_of}
use Rattle.eql_outside.proofs.Landing.{lands_as}
use Rattle.eql_outside.proofs.disk.store.landed.Goals as goal

pub returns : goal.returns
returns c =
    lands_as (write_of c.args.write.now) c.deref-2.result.now c.args.old.now _
    (omega (arith, ap length c.deref-2.ensures.value, c.in_ok-made.ensures.few, ap length c.deref.ensures.value))
    (λ one. c.deref-2.ensures.value ∙ c.in_ok-made.ensures.whole (ap length c.deref.ensures.value ∙ one) ∙ c.deref.ensures.value)
    (omega arith)
    c.in_ok-overwritten.ensures
