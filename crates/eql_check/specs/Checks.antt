-- What contracts see of a checked query.
use Rattle.std.specs.Prelude.{ℕ, List}
use Rattle.eql_values.specs.declared.value.Kind.{Kind}
use Rattle.eql_query.specs.declared.query.Query.{Query}

-- a query and its used fields with their kinds, in the order of first use
pub record CheckedQuery : Type 0 where
  pub query : Query
  pub fields : List (List ℕ × Kind)
