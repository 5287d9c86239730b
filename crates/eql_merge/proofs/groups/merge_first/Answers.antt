use Rattle.std.proofs.Common.{List, subst, sym}
use Rattle.eql_merge.specs.Ranks.{HaveNoTies}
use Rattle.eql_merge.proofs.Splits.{parts_stand}
use Rattle.eql_merge.proofs.FirstLists.{first_put}
use Rattle.eql_merge.proofs.groups.merge_first.Goals as goal

pub merge_at_once-requires-clause-apart : goal.merge_at_once-requires-clause-apart
merge_at_once-requires-clause-apart g c =
    let R = g.T.Ranked.rank in
    subst (HaveNoTies R) (sym {A = List (List g.row.T.Denot)} (c.in_ok-rest.ensures {u = tt}).items)
    (parts_stand R c.args.first c.args.lists.items c.requires.ascend c.requires.apart).apart.earlier

pub returns-clause-ascend : goal.returns-clause-ascend
returns-clause-ascend g c =
    let R = g.T.Ranked.rank in
    let split = c.in_ok-rest.ensures {u = tt} in
    (first_put R g.met.T.Ranked.total c.args.first c.args.lists.items c.split_off.new.self.items c.in_ok-rest.rest.items c.push_back.new.self.items c.in_ok-merged.merged.items c.of.result
    c.requires.ascend c.requires.apart c.in_ok-merged.ensures.ascends c.in_ok-merged.ensures.all split.items split.tail c.of.ensures (c.in_ok-push_back.ensures {u = tt}).items).ascend

pub returns-clause-apart : goal.returns-clause-apart
returns-clause-apart g c =
    let R = g.T.Ranked.rank in
    let split = c.in_ok-rest.ensures {u = tt} in
    (first_put R g.met.T.Ranked.total c.args.first c.args.lists.items c.split_off.new.self.items c.in_ok-rest.rest.items c.push_back.new.self.items c.in_ok-merged.merged.items c.of.result
    c.requires.ascend c.requires.apart c.in_ok-merged.ensures.ascends c.in_ok-merged.ensures.all split.items split.tail c.of.ensures (c.in_ok-push_back.ensures {u = tt}).items).apart

pub returns-clause-all : goal.returns-clause-all
returns-clause-all g c =
    let R = g.T.Ranked.rank in
    let split = c.in_ok-rest.ensures {u = tt} in
    (first_put R g.met.T.Ranked.total c.args.first c.args.lists.items c.split_off.new.self.items c.in_ok-rest.rest.items c.push_back.new.self.items c.in_ok-merged.merged.items c.of.result
    c.requires.ascend c.requires.apart c.in_ok-merged.ensures.ascends c.in_ok-merged.ensures.all split.items split.tail c.of.ensures (c.in_ok-push_back.ensures {u = tt}).items).firsts
