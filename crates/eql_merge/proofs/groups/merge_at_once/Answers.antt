use Rattle.std.proofs.Common.{◌≡◌, ◌≤◌, ◌++◌, ◌∷◌, List, length, subst, sym, arith}
use Rattle.std.proofs.lemmas.Result.{IfOk-weaker}
use Rattle.eql_laws.specs.Apart.{joined_lists}
use Rattle.eql_merge.specs.Ranks.{HaveSameFirsts}
use Rattle.eql_merge.proofs.FirstLists.{two_joined}
use Rattle.eql_merge.proofs.groups.merge_at_once.Goals as goal

pub returns-clause-all : goal.returns-clause-all
returns-clause-all g c =
    let R = g.T.Ranked.rank in
    let X = g.row.T.Denot in
    let lists = c.args.lists.items in
    let a = c.in-Some-Some.earlier in
    let b = c.in-Some-Some.later in
    let first : lists ≡ a ∷ c.pop_front.new.self.items = (c.in-Some-Some.ensures {u = tt}).items in
    let second : c.pop_front.new.self.items ≡ b ∷ c.pop_front-2.new.self.items = (c.in-Some-Some.ensures' {u = tt}).items in
    let few : length lists ≤ 2 = omega (arith, c.len.ensures, c.if-len-gt2.false) in
    let both = two_joined lists a b c.pop_front.new.self.items c.pop_front-2.new.self.items first second few in
    IfOk-weaker c.merge_pair.result (λ all. HaveSameFirsts R (a ++ b) all.items) (λ all. HaveSameFirsts R (joined_lists lists) all.items)
    (λ all same. subst (λ (l : List X). HaveSameFirsts R l all.items) (sym both) same) c.merge_pair.ensures.all
