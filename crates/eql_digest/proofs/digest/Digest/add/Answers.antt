use Rattle.std.proofs.Common.{ℕ, ◌-◌, ◌%◌, length, arith}
use Rattle.eql_digest.proofs.Pieces.{whole_at_head, none_waits, piece_taken}
use Rattle.eql_digest.proofs.digest.Digest.add.Goals as goal

pub add_blocks-requires-clause-between_words : goal.add_blocks-requires-clause-between_words
add_blocks-requires-clause-between_words c = whole_at_head c.args.self.now c.add_one_by_one.new.self c.args.bytes.now c.min-head.result (omega arith) c.min-head.ensures c.add_one_by_one.ensures

pub returns : goal.returns
returns c = λ before is.
    let bytes = c.args.bytes.now in
    let head : ℕ = c.min-head.result in
    let end : ℕ = length bytes - (length bytes - head) % 64 in
    let blocks = c.add_blocks.ensures (λ some.
    none_waits c.args.self.now c.add_one_by_one.new.self before _ is c.add_one_by_one.ensures
    (whole_at_head c.args.self.now c.add_one_by_one.new.self bytes head (omega arith) c.min-head.ensures c.add_one_by_one.ensures some)) in
    piece_taken c.args.self.now c.add_one_by_one.new.self c.add_blocks.new.self _ before bytes head end (omega arith) (omega arith) is
    c.add_one_by_one.ensures blocks c.add_one_by_one-2.ensures
