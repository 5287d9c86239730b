use Rattle.std.proofs.Common.{ap, ◌∙◌, arith}
use Rattle.std.specs.Prelude.{filter, not}
use Rattle.eql_values.specs.Marks.{is_below}
use Rattle.eql_laws.proofs.CutLemmas.{filter_fewer}
use Rattle.eql_lane.specs.Judging.{KeptView}
use Rattle.eql_lane.proofs.HeldLemmas.{first_below}
use Rattle.eql_lane.proofs.kept.Kept.take_below.Goals as goal

pub pop_many-requires-clause-few : goal.pop_many-requires-clause-few
pop_many-requires-clause-few c = omega (arith, c.count_below-count.ensures, filter_fewer (is_below c.args.mark) c.self.inside.held)

pub returns-clause-items : goal.returns-clause-items
returns-clause-items c =
    c.of.ensures ∙ c.pop_many.ensures.items ∙ (first_below c.args.mark c.self.inside.held c.count_below-count.result c.ordered.ensures c.count_below-count.ensures).taken
    ∙ ap (λ (k : KeptView). filter (is_below c.args.mark) k.items) c.self.view_is

pub returns-clause-kept : goal.returns-clause-kept
returns-clause-kept c =
    let out = first_below c.args.mark c.self.inside.held c.count_below-count.result c.ordered.ensures c.count_below-count.ensures in
    (λ i. record { slack = c.self.inside.slack; offset = c.self.inside.offset; closed = c.self.inside.closed; best = c.self.inside.best; counts = c.self.inside.counts; items = (c.pop_many.ensures.rest ∙ out.stays) i })
    ∙ ap (λ (k : KeptView). let l : KeptView = record k { items = filter (λ item. not (is_below c.args.mark item)) k.items } in l) c.self.view_is
