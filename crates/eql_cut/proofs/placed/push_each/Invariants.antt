use Rattle.std.proofs.Common.{◌≡◌, ◌++◌, take}
use Rattle.std.specs.List.{flat_map}
use Rattle.eql_cut.specs.Placing.{lines_at}
use Rattle.eql_cut.proofs.placed.push_each.Given as goal

abbrev pub invariant-loop-item : goal.invariant-loop-item
invariant-loop-item g l = l.to.items ≡ l.fn.to.items ++ flat_map (λ x. lines_at l.shard (g.T.Placed.orders x)) (take l.item-index l.items)
