use Rattle.std.proofs.Common.{subst}
use Rattle.eql_query.specs.QueryTree.{query_tree}
use Rattle.eql_check.specs.Checks.{CheckedQuery}
use Rattle.eql_check.specs.Kept.{ConditionsAreBool}
use Rattle.eql_check.proofs.Fitting.{conditions_are_bool}
use Rattle.eql_check.proofs.checked.conditions_are_bool.Goals as goal

pub returns : goal.returns
returns c =
    subst (λ (seen : CheckedQuery). ConditionsAreBool (query_tree seen.query) seen.fields) c.checked.view_is
    (conditions_are_bool (query_tree c.checked.inside.query) c.checked.inside.fields c.checked.invariant)
