use Rattle.std.proofs.lemmas.Grind.{common_steps}
use Rattle.std.proofs.Common.{arith}
use Rattle.eql_lexer.proofs.Numbers.{number_next}
use Rattle.eql_lexer.proofs.number.number_of.Goals as goal

pub returns-in_default : goal.returns-in_default
returns-in_default c =
    let h = number_next c.loop-b.n c.loop-b.b-index c.args.digits.now 0 (omega arith) in
    omega (arith, c.in_default.ensures, c.loop-b.invariant, h)

pub returns-in_default-checked_add : goal.returns-in_default-checked_add
returns-in_default-checked_add c =
    let h = number_next c.loop-b.n c.loop-b.b-index c.args.digits.now 0 (omega arith) in
    omega (arith, c.in_default-checked_add.ensures, c.in-Some.ensures, c.loop-b.invariant, h)

pub loop-b-preserved : goal.loop-b-preserved
loop-b-preserved c = grind (arith, common_steps)
