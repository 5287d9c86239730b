use Rattle.std.proofs.Common.{◌++◌, ◌∷◌, [], List, ap, ◌∙◌}
use Rattle.eql_query.specs.QueryTree.{term_tree}
use Rattle.eql_stages.specs.declared.matcher.ItemMatcher.{ItemMatcher}
use Rattle.eql_stages.proofs.Made.{one_stage}
use Rattle.eql_stages.proofs.compile.single.Goals as goal

pub returns-clause-stages : goal.returns-clause-stages
returns-clause-stages c =
    let matcher = c.in_ok-matcher_of.field-0 in
    one_stage c.args.checked.now.fields (record { term = term_tree c.args.term.now; keys = [] }) matcher c.with_depth.result.items.items
    (c.with_depth.ensures.items ∙ c.in_ok-push.ensures.items ∙ ap (λ (l : List ItemMatcher). l ++ matcher ∷ []) c.in_ok-items.ensures.items)
    c.in_ok-matcher_of.ensures.matchers c.in_ok-matcher_of.ensures.runs
