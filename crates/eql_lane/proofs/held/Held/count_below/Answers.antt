use Rattle.std.proofs.Common.{◌≡◌, ◌+◌, List, length, ap, sym, ◌∙◌, arith}
use Rattle.std.specs.Prelude.{filter}
use Rattle.eql_values.specs.declared.item.Item.{Item}
use Rattle.eql_values.specs.Marks.{is_below}
use Rattle.eql_laws.proofs.CutLemmas.{filter_fewer}
use Rattle.eql_lane.specs.Holding.{items_in}
use Rattle.eql_lane.proofs.StoreLemmas.{prefix, count_is}
use Rattle.eql_lane.proofs.HeldLemmas.{both_below}
use Rattle.eql_lane.proofs.held.Held.count_below.Goals as goal

pub overflow_add-result : goal.overflow_add-result
overflow_add-result c =
    let others : c.others_below.result ≡ length (filter (is_below c.args.mark) (items_in c.self.inside.others.entries)) =
    c.others_below.ensures ∙ (prefix c.args.mark c.self.inside.others.entries c.self.invariant.others_order).counted ∙ sym (count_is c.args.mark c.self.inside.others.entries) in
    let both = both_below c.args.mark c.self.inside.run.items c.self.inside.others.entries c.self.invariant in
    let same = ap (λ (l : List Item). length (filter (is_below c.args.mark) l)) c.self.view_is in
    let fewer = filter_fewer (is_below c.args.mark) c.args.self.now in
    omega (arith, others, both, same, fewer, c.run_below.ensures, c.requires.few)

pub returns : goal.returns
returns c =
    let others : c.others_below.result ≡ length (filter (is_below c.args.mark) (items_in c.self.inside.others.entries)) =
    c.others_below.ensures ∙ (prefix c.args.mark c.self.inside.others.entries c.self.invariant.others_order).counted ∙ sym (count_is c.args.mark c.self.inside.others.entries) in
    (λ i. c.run_below.ensures i + others i) ∙ both_below c.args.mark c.self.inside.run.items c.self.inside.others.entries c.self.invariant
    ∙ ap (λ (l : List Item). length (filter (is_below c.args.mark) l)) c.self.view_is
