use Rattle.std.proofs.Common.{subst}
use Rattle.eql_query.specs.QueryTree.{query_tree}
use Rattle.eql_check.specs.Checks.{CheckedQuery}
use Rattle.eql_check.specs.RulesKept.{KeepsRules}
use Rattle.eql_check.proofs.Bounds.{rules_kept}
use Rattle.eql_check.proofs.checked.Checked.rules_are_kept.Goals as goal

pub returns : goal.returns
returns c =
    subst (λ (seen : CheckedQuery). KeepsRules (query_tree seen.query) seen.fields) c.self.view_is
    (rules_kept (query_tree c.self.inside.query) c.self.inside.fields c.self.invariant)
