use Rattle.std.proofs.Common.{◌≡◌, map, take}
use Rattle.eql_query.specs.View.{tree}
use Rattle.eql_query.proofs.copy.+copy.Given as goal

abbrev pub invariant-copy_exprs-loop-item : goal.invariant-copy_exprs-loop-item
invariant-copy_exprs-loop-item l = map tree l.items.items ≡ map tree (take l.item-index l.item-items)
