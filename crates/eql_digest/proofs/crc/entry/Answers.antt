use Rattle.std.proofs.Common.{◌≡◌, ℕ, ap, sym, ◌∙◌, refl, arith}
use Rattle.eql_digest.specs.Checksums.{divided, divided_by_bits}
use Rattle.eql_digest.proofs.Divisions.{divided_once_more}
use Rattle.eql_digest.proofs.crc.entry.Goals as goal

pub bits-init : goal.bits-init
unfolding divided_by_bits
bits-init c = refl

pub bits-preserved : goal.bits-preserved
bits-preserved c = c.divide-rest.ensures ∙ ap divided c.bits.invariant ∙ sym (divided_once_more c.bits.counter c.args.byte)

pub returns : goal.returns
returns c = c.bits.invariant ∙ ap (λ (bits : ℕ). divided_by_bits bits c.args.byte) (let all : c.bits.counter ≡ 8 = omega arith in all)
