use Rattle.std.proofs.Common.{◌≡◌, ℕ, ◌+◌, ◌*◌, ◌%◌, ◌^◌, length, ap, sym, ◌∙◌, arith, take, take_all}
use Rattle.eql_digest.specs.Digests.{with_bytes}
use Rattle.eql_digest.proofs.Blocks.{made, blocks_taken}
use Rattle.eql_digest.proofs.digest.Digest.add_blocks.Goals as goal

pub loop-i-init : goal.loop-i-init
unfolding with_bytes
loop-i-init c = λ between. ap (made c.args.self.now.lanes c.args.self.now.word) (let same : c.args.self.now.length ≡ (c.args.self.now.length + 0 * 64) % 2 ^ 64 = omega arith in same)

pub loop-i-preserved : goal.loop-i-preserved
loop-i-preserved c = λ between.
    blocks_taken c.args.self.now c.args.bytes.now c.loop-i.lanes c.with_block-next.result c.loop-i.i (omega arith) c.requires.between_words between (λ k. let fits = c.type_inv.bytes k in omega (arith, fits))
    (c.loop-i.invariant between) c.with_block-next.ensures

pub returns : goal.returns
returns c = λ between.
    let self = c.args.self.now in
    let bytes = c.args.bytes.now in
    let all : c.loop-i.i * 64 ≡ length bytes = omega arith in
    ap (λ (k : ℕ). made c.loop-i.lanes self.word ((self.length + k) % 2 ^ 64)) (sym all)
    ∙ sym (c.loop-i.invariant between)
    ∙ ap (λ (k : ℕ). with_bytes self (take k bytes)) all
    ∙ ap (with_bytes self) (take_all (length bytes) bytes (omega arith))
