use Rattle.std.proofs.Common.{◌≡◌, ◌≤◌, subst, sym, ◌∙◌}
use Rattle.eql_query.specs.QueryTree.{QueryTree, query_tree}
use Rattle.eql_parser.specs.QueryGrammar.{IsQuery}
use Rattle.eql_parser.specs.Limits.{levels, OpensAtMost}
use Rattle.eql_parser.specs.Refusing.{IsMemory, RefusesTokens}
use Rattle.eql_parser.specs.Refusals.{refusal_of}
use Rattle.eql_parser.proofs.Parsed.{found_by, levels_by, opens_by, same_query, only_memory, refused_by}
use Rattle.eql_parser.proofs.parser.parse.Goals as goal

pub returns-in-Ok-clause-found : goal.returns-in-Ok-clause-found
returns-in-Ok-clause-found c =
    subst (λ ts. IsQuery ts (query_tree c.in-Ok.query)) (c.as_slice-items.ensures.value ∙ c.items.ensures) (found_by c.as_slice-items.result.now (query_tree c.in-Ok.query) c.in-Ok.field-0-1.now c.in-Ok.ensures)

pub returns-in-Ok-clause-levels : goal.returns-in-Ok-clause-levels
returns-in-Ok-clause-levels c = levels_by c.as_slice-items.result.now (query_tree c.in-Ok.query) c.in-Ok.field-0-1.now c.in-Ok.ensures

pub returns-in-Ok-clause-open : goal.returns-in-Ok-clause-open
returns-in-Ok-clause-open c =
    subst (λ ts. OpensAtMost 128 ts) (c.as_slice-items.ensures.value ∙ c.items.ensures) (opens_by c.as_slice-items.result.now (query_tree c.in-Ok.query) c.in-Ok.field-0-1.now c.in-Ok.ensures)

pub returns-in-Ok-clause-answered : goal.returns-in-Ok-clause-answered
returns-in-Ok-clause-answered c =
    subst (λ ts. (q : QueryTree) → IsQuery ts q → levels q ≤ 64 → OpensAtMost 128 ts → query_tree c.in-Ok.query ≡ q) (c.as_slice-items.ensures.value ∙ c.items.ensures) (same_query c.as_slice-items.result.now (query_tree c.in-Ok.query) c.in-Ok.field-0-1.now c.in-Ok.ensures)

pub returns-in-Err-clause-refused : goal.returns-in-Err-clause-refused
returns-in-Err-clause-refused c =
    let items = c.as_slice-items.result.now in
    subst (λ r. RefusesTokens c.args.tokens.now r) (sym c.refused.ensures) (subst (λ ts. RefusesTokens ts (refusal_of items c.in-Err.stop)) (c.as_slice-items.ensures.value ∙ c.items.ensures) (refused_by items c.in-Err.stop c.in-Err.ensures))

pub returns-in-Err-clause-answered : goal.returns-in-Err-clause-answered
returns-in-Err-clause-answered c =
    let items = c.as_slice-items.result.now in
    subst (λ r. (q : QueryTree) → IsQuery c.args.tokens.now q → levels q ≤ 64 → OpensAtMost 128 c.args.tokens.now → IsMemory r) (sym c.refused.ensures)
    (subst (λ ts. (q : QueryTree) → IsQuery ts q → levels q ≤ 64 → OpensAtMost 128 ts → IsMemory (refusal_of items c.in-Err.stop)) (c.as_slice-items.ensures.value ∙ c.items.ensures) (only_memory items c.in-Err.stop c.in-Err.ensures))
