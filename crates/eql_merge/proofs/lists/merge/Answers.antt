use Rattle.std.proofs.Common.{sym, subst, ◌∙◌, List}
use Rattle.std.specs.Prelude.{All}
use Rattle.eql_values.specs.declared.item.Item.{Item}
use Rattle.eql_values.specs.Ascending.{Ascend}
use Rattle.eql_laws.specs.Apart.{joined_lists}
use Rattle.eql_merge.specs.Ranks.{Ascends, HaveNoTies, HaveSameFirsts, item_rank}
use Rattle.eql_merge.proofs.Ends.{items_ascend, items_apart, items_merged, all_ascends}
use Rattle.eql_merge.proofs.lists.merge.Goals as goal

pub merge_all-requires-clause-ascend : goal.merge_all-requires-clause-ascend
merge_all-requires-clause-ascend c = subst (All (Ascends item_rank)) (sym (c.in_ok-runs.ensures {u = tt})) (items_ascend c.args.lists c.requires.ascend)

pub merge_all-requires-clause-apart : goal.merge_all-requires-clause-apart
merge_all-requires-clause-apart c = subst (HaveNoTies item_rank) (sym (c.in_ok-runs.ensures {u = tt})) (items_apart c.args.lists c.requires.apart)

pub returns-clause-sorted : goal.returns-clause-sorted
returns-clause-sorted c =
    let firsts = subst (λ (l : List (List Item)). HaveSameFirsts item_rank (joined_lists l) c.in_ok-all.all.items) (c.in_ok-runs.ensures {u = tt}) c.in_ok-all.ensures.all in
    c.of.ensures ∙ items_merged c.args.lists c.in_ok-all.all.items c.in_ok-all.ensures.ascends firsts

pub returns-clause-ascends : goal.returns-clause-ascends
returns-clause-ascends c =
    let firsts = subst (λ (l : List (List Item)). HaveSameFirsts item_rank (joined_lists l) c.in_ok-all.all.items) (c.in_ok-runs.ensures {u = tt}) c.in_ok-all.ensures.all in
    subst Ascend (sym (c.of.ensures ∙ items_merged c.args.lists c.in_ok-all.all.items c.in_ok-all.ensures.ascends firsts)) (all_ascends c.below_ascends.ensures.sorted c.args.lists c.requires.ascend)
