-- What every checked query keeps.
use Rattle.std.specs.Prelude.{◌≡◌, ℕ, List, None}
use Rattle.eql_values.specs.declared.value.Kind.{Kind}
use Rattle.eql_query.specs.QueryTree.{QueryTree}
use Rattle.eql_check.specs.Kinds.{kind_at}
use Rattle.eql_check.specs.Used.{used_fields}
use Rattle.eql_check.specs.Rules.{first_broken}

-- there is a mapping under which the query breaks no rule, and from which its used fields come
pub record WasChecked (query : QueryTree) (fields : List (List ℕ × Kind)) : Type 0 where
  pub mapping : List (List ℕ × Kind)
  pub kept : first_broken (kind_at mapping) query ≡ None
  pub used : fields ≡ used_fields (kind_at mapping) query
