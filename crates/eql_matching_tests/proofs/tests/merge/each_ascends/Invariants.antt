use Rattle.std.proofs.Common.{◌<◌, ℕ, List, get_or}
use Rattle.eql_values.specs.declared.item.Item.{Item}
use Rattle.eql_values.specs.Ascending.{Ascend}
use Rattle.eql_matching_tests.proofs.tests.merge.each_ascends.Given as goal

abbrev pub invariant-loop-items : goal.invariant-loop-items
invariant-loop-items l = (k : ℕ) (d : List Item) → k < l.items-index → Ascend (get_or l.lists k d)
