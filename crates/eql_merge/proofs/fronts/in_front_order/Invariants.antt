use Rattle.std.proofs.Common.{◌++◌, length}
use Rattle.std.specs.Prelude.{IsPermutation}
use Rattle.eql_laws.specs.Apart.{joined_lists}
use Rattle.eql_merge.proofs.fronts.in_front_order.Given as goal

abbrev pub invariant-loop-run : goal.invariant-loop-run
invariant-loop-run g l = IsPermutation (joined_lists l.fn.lists.items) (joined_lists l.lists.items ++ joined_lists l.fronts.items)

abbrev pub decreases-loop-run : goal.decreases-loop-run
decreases-loop-run g l = length l.lists.items
