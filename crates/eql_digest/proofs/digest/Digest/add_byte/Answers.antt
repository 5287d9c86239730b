use Rattle.std.proofs.Common.{ℕ, List, ◌+◌, ◌*◌, ◌%◌, ◌^◌, ap, sym, ◌∙◌, get_or, rules}
use Rattle.eql_digest.specs.Digests.{turned, word_with}
use Rattle.eql_digest.proofs.Taking.{whole_word, part_word}
use Rattle.eql_digest.proofs.Blocks.{made, first_turns, word_is}
use Rattle.eql_digest.proofs.digest.Digest.add_byte.Goals as goal

pub returns-then-place-eq7 : goal.returns-then-place-eq7
returns-then-place-eq7 c =
    let self = c.args.self.now in
    let length : ℕ = (self.length + 1) % 2 ^ 64 in
    let moved = ap (λ (b : ℕ). (self.word + b * 2 ^ (8 * (self.length % 8)) % 2 ^ 64) % 2 ^ 64) c.from.ensures ∙ word_is self c.args.byte in
    let lanes = first_turns self.lanes c.turned.result (word_with self c.args.byte) (search rules) (c.turned.ensures ∙ ap (turned (get_or self.lanes 0 0)) moved) in
    ap (λ (x : List ℕ). made x 0 length) lanes ∙ sym (whole_word self c.args.byte c.if-place-eq7.true)

pub returns-else-place-eq7 : goal.returns-else-place-eq7
returns-else-place-eq7 c =
    let self = c.args.self.now in
    let length : ℕ = (self.length + 1) % 2 ^ 64 in
    let moved = ap (λ (b : ℕ). (self.word + b * 2 ^ (8 * (self.length % 8)) % 2 ^ 64) % 2 ^ 64) c.from.ensures ∙ word_is self c.args.byte in
    ap (λ (x : ℕ). made self.lanes x length) moved ∙ sym (part_word self c.args.byte c.if-place-eq7.false)
