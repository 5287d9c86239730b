use Rattle.std.proofs.Common.{◌<◌, ◌≤◌, ◌^◌, arith, rules}
use Rattle.eql_lexer.proofs.Numbers.{hex_fits}
use Rattle.eql_lexer.proofs.number.hex_number_of.Goals as goal

pub overflow_mul-n : goal.overflow_mul-n
overflow_mul-n c =
    let few : c.loop-b.b-index ≤ 8 = omega (arith, c.requires.short) in
    let small : c.loop-b.n < 2 ^ 32 = hex_fits c.loop-b.n c.loop-b.b-index c.loop-b.invariant.1 few in
    search rules

pub overflow_add-n : goal.overflow_add-n
overflow_add-n c =
    let few : c.loop-b.b-index ≤ 8 = omega (arith, c.requires.short) in
    let small : c.loop-b.n < 2 ^ 32 = hex_fits c.loop-b.n c.loop-b.b-index c.loop-b.invariant.1 few in
    search rules

pub overflow_cast-result : goal.overflow_cast-result
overflow_cast-result c =
    let few : c.loop-b.b-index ≤ 8 = omega (arith, c.requires.short) in
    let small : c.loop-b.n < 2 ^ 32 = hex_fits c.loop-b.n c.loop-b.b-index c.loop-b.invariant.1 few in
    search rules
