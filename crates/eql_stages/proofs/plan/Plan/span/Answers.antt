use Rattle.std.proofs.Common.{◌≡◌, true, sym, subst}
use Rattle.eql_laws.specs.Alive.{IsSpan}
use Rattle.eql_check.specs.Checks.{CheckedQuery}
use Rattle.eql_check.specs.Rules.{span_of}
use Rattle.eql_check.specs.Typing.{may_span}
use Rattle.eql_query.specs.QueryTree.{query_tree}
use Rattle.eql_stages.proofs.Counted.{span_is}
use Rattle.eql_stages.proofs.plan.Plan.span.Goals as goal

pub returns-clause-time : goal.returns-clause-time
returns-clause-time c =
    subst IsSpan (sym c.span_set.ensures)
    (span_is (query_tree c.args.self.now.checked.query).body
    (subst (λ (q : CheckedQuery). may_span (span_of (query_tree q.query).body) ≡ true) c.checked.ensures c.rules_are_kept.ensures.checked.span))
