use Rattle.std.proofs.Common.{◌≡◌, map, take}
use Rattle.eql_query.specs.QueryTree.{term_tree}
use Rattle.eql_check.specs.Entries.{terms_in}
use Rattle.eql_check.proofs.parts.all_items.Given as goal

abbrev pub invariant-loop-item : goal.invariant-loop-item
invariant-loop-item l = terms_in l.all.items ≡ map term_tree (take l.item-index l.item-items)
