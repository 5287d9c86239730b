use Rattle.std.proofs.Common.{◌≡◌, ◌%◌, ◌/◌, ◌^◌, ◌-◌, ℕ, List, get_or, take, bit_xor, ap, sym, ◌∙◌, refl, arith}
use Rattle.std.proofs.lemmas.Grind.{take_at_read}
use Rattle.eql_digest.specs.Checksums.{divided_by_bits, rest_after}
use Rattle.eql_digest.proofs.Divisions.{divided_by_table, rest_after_more}
use Rattle.eql_digest.proofs.crc.checksum.Goals as goal

pub loop-byte-init : goal.loop-byte-init
unfolding rest_after
loop-byte-init c = refl

pub loop-byte-preserved : goal.loop-byte-preserved
loop-byte-preserved c =
    let ones : ℕ = 2 ^ 64 - 1 in
    let front : List ℕ = take c.loop-byte.byte-index c.args.bytes.now in
    let byte : ℕ = get_or c.args.bytes.now c.loop-byte.byte-index 0 in
    let both : ℕ = bit_xor c.loop-byte.rest byte in
    let read : bit_xor c.loop-byte.rest c.from.result ≡ both = ap (bit_xor c.loop-byte.rest) c.from.ensures in
    let more = (take_at_read c.args.bytes.now c.loop-byte.byte-index 0 (omega arith)).1 in
    ap (λ (x : ℕ). bit_xor (get_or c.entries-table.result (x % 256) 0) (x / 256)) read
    ∙ ap (λ (x : ℕ). bit_xor x (both / 256)) (c.entries-table.ensures (both % 256) (omega arith))
    ∙ sym (divided_by_table both)
    ∙ ap (λ (x : ℕ). divided_by_bits 8 (bit_xor x byte)) c.loop-byte.invariant
    ∙ sym (rest_after_more ones front byte)
    ∙ ap (rest_after ones) (sym more)
