use Rattle.std.proofs.Common.{length}
use Rattle.std.specs.Prelude.{All}
use Rattle.eql_laws.specs.Apart.{joined_lists}
use Rattle.eql_merge.specs.Ranks.{Ascends, HaveNoTies, HaveSameFirsts}
use Rattle.eql_merge.proofs.groups.merge_all.Given as goal

abbrev pub invariant-loop-first : goal.invariant-loop-first
invariant-loop-first g l = record {
  ascend : All (Ascends g.T.Ranked.rank) l.lists.items;
  apart : HaveNoTies g.T.Ranked.rank l.lists.items;
  firsts : HaveSameFirsts g.T.Ranked.rank (joined_lists l.fn.lists.items) (joined_lists l.lists.items);
}

abbrev pub decreases-loop-first : goal.decreases-loop-first
decreases-loop-first g l = length l.lists.items
