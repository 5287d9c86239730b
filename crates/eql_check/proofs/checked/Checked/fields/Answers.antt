use Rattle.std.proofs.Common.{◌≤◌, length, subst}
use Rattle.eql_query.specs.QueryTree.{query_tree}
use Rattle.eql_check.specs.Checks.{CheckedQuery}
use Rattle.eql_check.specs.Used.{AreOnce}
use Rattle.eql_check.proofs.Bounds.{few_fields, fields_once}
use Rattle.eql_check.proofs.checked.Checked.fields.Goals as goal

pub returns-clause-few : goal.returns-clause-few
returns-clause-few c =
    subst (λ (seen : CheckedQuery). length seen.fields ≤ 64) c.self.view_is (few_fields (query_tree c.self.inside.query) c.self.inside.fields c.self.invariant)

pub returns-clause-once : goal.returns-clause-once
returns-clause-once c =
    subst (λ (seen : CheckedQuery). AreOnce seen.fields) c.self.view_is (fields_once (query_tree c.self.inside.query) c.self.inside.fields c.self.invariant)
