use Rattle.std.proofs.Common.{ℕ, subst, sym, arith}
use Rattle.eql_cut.proofs.WholeLaws.{found, stands, damaged}
use Rattle.eql_cut.specs.Whole.{IsTextOf}
use Rattle.eql_cut.proofs.whole.decode.Goals as goal

pub returns-in-Ok-clause-found : goal.returns-in-Ok-clause-found
returns-in-Ok-clause-found c =
    subst (λ (n : ℕ). IsTextOf n c.in-Ok.cut c.args.bytes.now) (sym c.number.ensures)
    (found c.in-Ok.version c.in-Ok.cut c.args.bytes.now (λ i. omega (arith, c.type_inv.bytes i)) c.in-Ok.ensures)

pub returns-in-Ok-clause-stands : goal.returns-in-Ok-clause-stands
returns-in-Ok-clause-stands c =
    stands c.orders_told_alike.ensures.back c.in-Ok.version c.in-Ok.cut c.args.bytes.now (λ i. omega (arith, c.type_inv.bytes i)) c.in-Ok.ensures

pub returns-in-Err-clause-damaged : goal.returns-in-Err-clause-damaged
returns-in-Err-clause-damaged c = damaged c.in-Err.refused c.args.bytes.now (λ i. omega (arith, c.type_inv.bytes i)) c.in-Err.ensures
