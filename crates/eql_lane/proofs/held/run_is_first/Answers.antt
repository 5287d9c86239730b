use Rattle.std.proofs.Common.{refl, ◌∙◌, arith}
use Rattle.eql_lane.proofs.HeldLemmas.{first_told}
use Rattle.eql_lane.proofs.held.run_is_first.Goals as goal

pub returns-in-Some-Some : goal.returns-in-Some-Some
returns-in-Some-Some c =
    let front = c.in-Some-Some.ensures {u = tt} in
    let first = c.in-Some-Some.ensures' {u = tt} in
    let many = c.args.run.now.ok in
    let some = front.variant.0 refl in
    c.lt.ensures ∙ first_told c.args.run.now.items c.args.others.now.entries c.in-Some-Some.item.now (c.in-Some-Some.order.now, c.in-Some-Some.field-0-1-1.now) (omega (arith, many, some)) front.lookup first.first
