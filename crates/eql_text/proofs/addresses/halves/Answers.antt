use Rattle.std.specs.Str.{chars}
use Rattle.eql_text.proofs.Addressing.{no_slash, slashes, one_slash}
use Rattle.eql_text.proofs.addresses.halves.Goals as goal

pub returns-in_err-base : goal.returns-in_err-base
returns-in_err-base c = rw c.from_residual.ensures (no_slash _ c.in_err-base.ensures)

pub returns-in-Some : goal.returns-in-Some
returns-in-Some c =
    slashes _ _ (chars c.in_ok-base.bits.now) _ (chars c.in-Some.field-0.1.now) c.in_ok-base.ensures c.in-Some.ensures

pub returns-in-None : goal.returns-in-None
returns-in-None c = one_slash _ _ (chars c.in_ok-base.bits.now) c.in_ok-base.ensures c.in-None.ensures
