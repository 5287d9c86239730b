use Rattle.std.proofs.Common.{subst}
use Rattle.eql_query.specs.QueryTree.{query_tree}
use Rattle.eql_check.specs.Checks.{CheckedQuery}
use Rattle.eql_check.specs.Kept.{OperatorsMeetKinds}
use Rattle.eql_check.proofs.Fitting.{operators_meet_kinds}
use Rattle.eql_check.proofs.checked.operators_meet_kinds.Goals as goal

pub returns : goal.returns
returns c =
    subst (λ (seen : CheckedQuery). OperatorsMeetKinds (query_tree seen.query) seen.fields) c.checked.view_is
    (operators_meet_kinds (query_tree c.checked.inside.query) c.checked.inside.fields c.checked.invariant)
