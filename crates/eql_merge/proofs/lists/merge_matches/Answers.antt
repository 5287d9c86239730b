use Rattle.std.proofs.Common.{sym, subst, ◌∙◌, List}
use Rattle.std.specs.Prelude.{All}
use Rattle.eql_values.specs.declared.found.Match.{Match}
use Rattle.eql_laws.specs.Apart.{joined_lists, AreInMatchOrder}
use Rattle.eql_merge.specs.Ranks.{Ascends, HaveNoTies, HaveSameFirsts, match_rank}
use Rattle.eql_merge.proofs.Ends.{matches_ascend, matches_apart, matches_merged, matches_stand}
use Rattle.eql_merge.proofs.lists.merge_matches.Goals as goal

pub merge_all-requires-clause-ascend : goal.merge_all-requires-clause-ascend
merge_all-requires-clause-ascend c = subst (All (Ascends match_rank)) (sym (c.in_ok-runs.ensures {u = tt})) (matches_ascend c.args.lists.items c.requires.in_order)

pub merge_all-requires-clause-apart : goal.merge_all-requires-clause-apart
merge_all-requires-clause-apart c = subst (HaveNoTies match_rank) (sym (c.in_ok-runs.ensures {u = tt})) (matches_apart c.args.lists.items c.requires.apart)

pub returns-clause-sorted : goal.returns-clause-sorted
returns-clause-sorted c =
    let firsts = subst (λ (l : List (List Match)). HaveSameFirsts match_rank (joined_lists l) c.in_ok-all.all.items) (c.in_ok-runs.ensures {u = tt}) c.in_ok-all.ensures.all in
    c.of.ensures ∙ matches_merged c.args.lists.items c.in_ok-all.all.items c.in_ok-all.ensures.ascends firsts

pub returns-clause-in_order : goal.returns-clause-in_order
returns-clause-in_order c = subst AreInMatchOrder (sym c.of.ensures) (matches_stand c.in_ok-all.all.items c.in_ok-all.ensures.ascends)
