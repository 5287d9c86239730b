use Rattle.std.proofs.Common.{◌≡◌, ◌+◌, ◌++◌, true, length}
use Rattle.std.specs.Prelude.{IsPermutation}
use Rattle.eql_laws.specs.Apart.{joined_lists}
use Rattle.eql_merge.specs.Ranks.{Ascends}
use Rattle.eql_merge.proofs.fronts.merge_fronts.Given as goal

abbrev pub invariant-loop-front : goal.invariant-loop-front
invariant-loop-front g l = record {
  all : IsPermutation (joined_lists l.fn.lists.items) (l.merged.items ++ joined_lists l.fronts.items);
  order : l.in_order ≡ true → Ascends g.T.Ranked.rank l.merged.items;
}

abbrev pub decreases-loop-front : goal.decreases-loop-front
decreases-loop-front g l = length (joined_lists l.fronts.items) + length l.fronts.items
