use Rattle.std.proofs.Common.{◌≡◌, ◌≤◌, List, map, length, sym, ap, subst, ◌∙◌}
use Rattle.std.specs.List.{flat_map}
use Rattle.eql_query.specs.declared.query.Body.{Body}
use Rattle.eql_query.specs.declared.query.Query.{Query}
use Rattle.eql_query.specs.QueryTree.{query_tree, body_tree, term_tree}
use Rattle.eql_stages.specs.Stages.{Stage, item_stages, stages_in}
use Rattle.eql_stages.proofs.Counted.{stages_between}
use Rattle.eql_stages.proofs.compile.matchers_in.Goals as goal

pub sequence-requires-clause-few : goal.sequence-requires-clause-few
sequence-requires-clause-few c =
    let query = c.args.checked.now.query in
    let by : c.deref.result.now ≡ c.in-Sequence.by = c.deref.ensures.value ∙ c.items.ensures in
    let items : c.deref-in-Sequence.result.now ≡ c.in-Sequence.items = c.deref-in-Sequence.ensures.value ∙ c.items-in-Sequence.ensures in
    let same : stages_in (query_tree query).body ≡ flat_map (item_stages c.deref.result.now) (map term_tree c.deref-in-Sequence.result.now) =
    ap (λ (b : Body). stages_in (body_tree b)) (ap (λ (q : Query). q.body) (sym c.query.ensures) ∙ c.in-Sequence.is)
    ∙ (λ k. flat_map (item_stages (sym by k)) (map term_tree (sym items k))) in
    subst (λ (l : List Stage). length l ≤ 256) same
    (stages_between (query_tree query).body c.rules_are_kept.ensures.checked.stages c.rules_are_kept.ensures.runs).1
