use Rattle.std.proofs.Common.{rules}
use Rattle.std.specs.Cmp.{eq_by_cmp_equiv}
use Rattle.std.specs.Ordering.{eq_by_cmp, is_lt}
use Rattle.std.proofs.lemmas.List.Sorted.{answers_always, ranks_by}
use Rattle.std.proofs.lemmas.Map.Keys.{IsDistinct-IsPermutation}
use Rattle.eql_merge.proofs.Gathered.{sorted_ascends}
use Rattle.eql_merge.proofs.fronts.sort.Goals as goal

pub returns-clause-ascends : goal.returns-clause-ascends
returns-clause-ascends g c =
    let R = g.T.Ranked.rank in
    let total = g.met.T.Ranked.total in
    sorted_ascends R total c.sort_by.new.self.items
    (IsDistinct-IsPermutation (eq_by_cmp R) (eq_by_cmp_equiv total).symm c.args.values.now.items c.sort_by.new.self.items c.sort_by.ensures.permutation c.requires)
    ((c.in_ok-sort_by.ensures {u = tt}).sorted (λ x y. is_lt (R x y)) (ranks_by total (λ x. x)) (answers_always _ _ _ (λ f a r g h. search rules)))
