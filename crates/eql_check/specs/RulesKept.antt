-- The rules that every checked query keeps.
use Rattle.std.specs.Prelude.{◌≡◌, ℕ, List, true}
use Rattle.std.specs.List.{list_all}
use Rattle.eql_values.specs.declared.value.Kind.{Kind}
use Rattle.eql_query.specs.QueryTree.{QueryTree}
use Rattle.eql_check.specs.Kinds.{kind_at}
use Rattle.eql_check.specs.Conditions.{all_items}
use Rattle.eql_check.specs.Rules.{has_runs}
use Rattle.eql_check.specs.Typing.{IsChecked}
use Rattle.eql_check.specs.Used.{used_fields}

-- under some mapping the query breaks no rule and uses exactly these fields; and each item has 1 to 100 runs
pub record KeepsRules (query : QueryTree) (fields : List (List ℕ × Kind)) : Type 0 where
  pub mapping : List (List ℕ × Kind)
  pub checked : IsChecked (kind_at mapping) query
  pub used : fields ≡ used_fields (kind_at mapping) query
  pub runs : list_all has_runs (all_items query.body) ≡ true
