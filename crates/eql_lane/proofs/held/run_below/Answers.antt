use Rattle.std.proofs.Common.{rules, arith}
use Rattle.std.proofs.lemmas.Fn.{always_returns_same}
use Rattle.eql_values.specs.declared.item.Item.{Item}
use Rattle.eql_values.specs.Marks.{is_below}
use Rattle.eql_laws.proofs.Sorting.{bare}
use Rattle.eql_lane.proofs.HeldLemmas.{below_count, run_parted}
use Rattle.eql_lane.proofs.held.run_below.Goals as goal

pub returns : goal.returns
returns c =
    let parted = c.partition_point.ensures.partitioned (λ (item : Item). is_below c.args.mark (bare item.order)) (always_returns_same _ _ _ (λ a r g called. search rules)) (run_parted c.args.mark c.args.run.now.items c.requires) in
    let bound = c.partition_point.ensures.bound in
    let many = c.args.run.now.ok in
    below_count c.args.mark c.args.run.now.items c.partition_point.result parted.0 parted.1 (omega (arith, bound, many))
