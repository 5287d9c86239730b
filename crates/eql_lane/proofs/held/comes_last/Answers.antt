use Rattle.std.proofs.Common.{◌-◌, refl, sym, ◌∙◌, arith}
use Rattle.eql_lane.proofs.HeldLemmas.{last_below}
use Rattle.eql_lane.proofs.held.comes_last.Goals as goal

pub returns-in-Some : goal.returns-in-Some
returns-in-Some c is =
    let told = c.in-Some.ensures {u = tt} in
    let many = c.args.run.now.ok in
    let some = told.variant.0 refl in
    last_below c.args.run.now.items (c.args.run.now.len - 1) c.in-Some.last.now c.args.order.now c.requires (omega (arith, many, some)) told.lookup (sym c.lt.ensures ∙ is)
