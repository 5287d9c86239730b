use Rattle.std.proofs.Common.{◌-◌, length, ap, ◌∙◌, arith}
use Rattle.std.proofs.lemmas.List.{length-replicate}
use Rattle.eql_auto.proofs.auto.Auto.new.Goals as goal

pub invariant_of-result : goal.invariant_of-result
invariant_of-result g c =
    let len = ap length c.in_ok-table.ensures ∙ length-replicate (c.args.m - 1) _ in
    let from = c.requires.from in let to = c.requires.to in let room = c.in_ok-gone.ensures.capacity in
    record {
      few = omega arith;
      spare_room = tt;
      room = omega arith;
    }
