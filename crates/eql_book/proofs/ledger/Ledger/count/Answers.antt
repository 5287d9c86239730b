use Rattle.std.proofs.Common.{◌≡◌, ◌-◌, ◌^◌, arith}
use Rattle.std.proofs.lemmas.Grind.{common_steps}
use Rattle.eql_book.proofs.FitLemmas.{full_kept, full_out}
use Rattle.eql_book.proofs.ledger.Ledger.count.Goals as goal

pub returns-then-self-clause-kept : goal.returns-then-self-clause-kept
returns-then-self-clause-kept c =
    let full : c.args.self.now.found ≡ 2 ^ 64 - 1 = omega (arith, c.if-self.true) in
    full_kept c.args.self.now c.args.found full

pub returns-then-self-clause-out : goal.returns-then-self-clause-out
returns-then-self-clause-out c =
    let full : c.args.self.now.found ≡ 2 ^ 64 - 1 = omega (arith, c.if-self.true) in
    full_out c.args.self.now c.args.found full

pub returns-clause-kept : goal.returns-clause-kept
returns-clause-kept c = grind (arith, common_steps)
