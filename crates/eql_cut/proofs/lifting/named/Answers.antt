use Rattle.std.proofs.Common.{ℕ, List, ◌++◌, sym, ap, subst, ◌∙◌}
use Rattle.std.specs.List.Sorted.{IsStrictlyIncreasing}
use Rattle.std.proofs.Common.{eqb}
use Rattle.std.proofs.lemmas.List.Filters.{dedup_is}
use Rattle.std.proofs.lemmas.Map.Keys.{IsStrictlyIncreasing-dedup}
use Rattle.eql_cut.specs.Placing.{lines_at, orders_in}
use Rattle.eql_cut.proofs.PlaceLaws.{lines_told}
use Rattle.eql_cut.proofs.lifting.named.Goals as goal

pub returns-clause-ascend : goal.returns-clause-ascend
returns-clause-ascend c =
    let sorted = c.sort.new.self.items in
    let kept = c.of.ensures ∙ dedup_is eqb sorted c.dedup.new.self.items c.dedup.ensures.filtered in
    subst IsStrictlyIncreasing (sym kept) (IsStrictlyIncreasing-dedup sorted c.in_ok-sort.ensures.sorted)

pub returns-clause-exact : goal.returns-clause-exact
returns-clause-exact c =
    let sorted = c.sort.new.self.items in
    let all = lines_at c.args.shard (orders_in c.args.cut.now) in
    let kept = c.of.ensures ∙ dedup_is eqb sorted c.dedup.new.self.items c.dedup.ensures.filtered in
    let pushed = c.in_ok-push_lines.ensures ∙ ap (λ (l : List ℕ). l ++ all) c.new-lines.ensures.items in
    λ line. lines_told c.push_lines.new.to.items sorted c.of.result all pushed c.sort.ensures.permutation kept line
