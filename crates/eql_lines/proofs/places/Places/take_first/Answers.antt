use Rattle.std.proofs.Common.{ap, ◌==◌, arith}
use Rattle.std.specs.Int.{w128, trailing_zeros}
use Rattle.std.proofs.lemmas.Nat.Bits.{bit_at-trailing_zeros, bit_at_clear_same}
use Rattle.eql_lines.proofs.Bits.{cleared_less, other_cleared}
use Rattle.eql_lines.proofs.places.Places.take_first.Goals as goal

pub returns-clause-first : goal.returns-clause-first
returns-clause-first c =
    let n = c.args.self.now.bits in
    let first = bit_at-trailing_zeros w128 n (grind arith) (grind arith) in
    let k = trailing_zeros w128 n in
    (first.0, ap (λ x. x == 1) first.1, ap (λ x. x == 1) (bit_at_clear_same w128 n k first.0), λ i other. other_cleared n k i (grind arith) first.0 other)

pub returns-clause-fewer : goal.returns-clause-fewer
returns-clause-fewer c =
    let n = c.args.self.now.bits in
    let first = bit_at-trailing_zeros w128 n (grind arith) (grind arith) in
    cleared_less n (trailing_zeros w128 n) first.0 first.1
