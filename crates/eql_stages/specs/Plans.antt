-- What a plan keeps of its query.
use Rattle.std.specs.Prelude.{◌≡◌, ◌≤◌, ℕ, List, map, length, Option}
use Rattle.eql_values.specs.declared.value.Kind.{Kind}
use Rattle.eql_values.specs.declared.cut.Pipe.{Pipe}
use Rattle.eql_query.specs.QueryTree.{QueryTree}
use Rattle.eql_stages.specs.Stages.{stages_in, until_in, pipe_of}
use Rattle.eql_stages.specs.Compiling.{MatchStages, MatchesUntil}
use Rattle.eql_stages.specs.declared.matcher.ItemMatcher.{ItemMatcher}

-- its items judge as the stages of the query do, and it has their number and the query's pipes
pub record IsPlan (query : QueryTree) (fields : List (List ℕ × Kind)) (matchers : List ItemMatcher) (until : Option ItemMatcher) (stages : ℕ)
    (pipes : List Pipe) : Type 0 where
  pub matcher : MatchStages fields (stages_in query.body) matchers
  pub end : MatchesUntil fields (until_in query.body) until
  pub count : stages ≡ length (stages_in query.body)
  pub from : 1 ≤ stages
  pub to : stages ≤ 256
  pub pipes_are : pipes ≡ map pipe_of query.pipes
