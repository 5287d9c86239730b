use Rattle.std.proofs.Common.{ap, sym, ◌∙◌, refl, arith, get_or, take}
use Rattle.std.proofs.lemmas.Grind.{take_at_read}
use Rattle.eql_digest.specs.Digests.{with_byte, with_bytes}
use Rattle.eql_digest.specs.declared.digest.Digest.{Digest}
use Rattle.eql_digest.proofs.Taking.{with_bytes_more}
use Rattle.eql_digest.proofs.digest.Digest.add_one_by_one.Goals as goal

pub loop-byte-init : goal.loop-byte-init
unfolding with_bytes
loop-byte-init c = refl

pub loop-byte-preserved : goal.loop-byte-preserved
loop-byte-preserved c =
    let bytes = c.args.bytes.now in
    let i = c.loop-byte.byte-index in
    c.add_byte.ensures
    ∙ ap (λ (s : Digest). with_byte s (get_or bytes i 0)) c.loop-byte.invariant
    ∙ sym (with_bytes_more c.args.self.now (take i bytes) (get_or bytes i 0))
    ∙ ap (with_bytes c.args.self.now) (sym (take_at_read bytes i 0 (omega arith)).1)
