use Rattle.std.proofs.Common.{sym, subst, ◌∙◌, List}
use Rattle.std.specs.Prelude.{All}
use Rattle.eql_values.specs.declared.found.Holder.{Holder}
use Rattle.eql_laws.specs.Alive.{HoldersAreInOrder}
use Rattle.eql_laws.specs.Apart.{joined_lists}
use Rattle.eql_merge.specs.Ranks.{Ascends, HaveNoTies, HaveSameFirsts, holder_rank}
use Rattle.eql_merge.proofs.Ends.{holders_ascend, holders_apart, holders_merged, holders_stand}
use Rattle.eql_merge.proofs.lists.merge_holders.Goals as goal

pub merge_all-requires-clause-ascend : goal.merge_all-requires-clause-ascend
merge_all-requires-clause-ascend c = subst (All (Ascends holder_rank)) (sym (c.in_ok-runs.ensures {u = tt})) (holders_ascend c.args.lists.items c.requires.in_order)

pub merge_all-requires-clause-apart : goal.merge_all-requires-clause-apart
merge_all-requires-clause-apart c = subst (HaveNoTies holder_rank) (sym (c.in_ok-runs.ensures {u = tt})) (holders_apart c.args.lists.items c.requires.apart)

pub returns-clause-sorted : goal.returns-clause-sorted
returns-clause-sorted c =
    let firsts = subst (λ (l : List (List Holder)). HaveSameFirsts holder_rank (joined_lists l) c.in_ok-all.all.items) (c.in_ok-runs.ensures {u = tt}) c.in_ok-all.ensures.all in
    c.of.ensures ∙ holders_merged c.args.lists.items c.in_ok-all.all.items c.in_ok-all.ensures.ascends firsts

pub returns-clause-in_order : goal.returns-clause-in_order
returns-clause-in_order c = subst HoldersAreInOrder (sym c.of.ensures) (holders_stand c.in_ok-all.all.items c.in_ok-all.ensures.ascends)
