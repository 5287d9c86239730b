-- A query as it is planned, and what a line gives to it.
use Rattle.std.specs.Prelude.{ℕ, ℤ, List, map, length, Option}
use Rattle.eql_values.specs.declared.value.Kind.{Kind}
use Rattle.eql_values.specs.declared.item.Route.{Route}
use Rattle.eql_values.specs.declared.reader.LineGot.{LineGot}
use Rattle.eql_values.specs.declared.reader.LineGot.TheVariants as got
use Rattle.eql_values.specs.Accepted.{Reads}
use Rattle.eql_lines.specs.declared.wanted.Wanted.{Wanted}
use Rattle.eql_lines.specs.declared.wanted.Fields.{Fields}
use Rattle.eql_lines.specs.declared.wanted.LineRead.{LineRead}
use Rattle.eql_lines.specs.declared.wanted.LineRead.TheVariants as read
use Rattle.eql_lines.specs.Reading.{line_read}
use Rattle.eql_query.specs.QueryTree.{QueryTree, query_tree}
use Rattle.eql_check.specs.Checks.{CheckedQuery}
use Rattle.eql_check.specs.Conditions.{key_count}
use Rattle.eql_laws.specs.Fitting.{Run}
use Rattle.eql_stages.specs.Stages.{stages_in, until_in, span_in, pipe_of, routes_of}

-- a query, its used fields with their kinds in the order of first use, and the name of the tiebreaker field
pub record Planned : Type 0 where
  pub query : QueryTree
  pub fields : List (List ℕ × Kind)
  pub tie : Option (List ℕ)

-- what contracts see of a plan: the checked query, and the name of the tiebreaker field
pub record PlanOf : Type 0 where
  pub checked : CheckedQuery
  pub tie : Option (List ℕ)

abbrev pub planned_query : PlanOf → Planned
planned_query plan = record { query = query_tree plan.checked.query; fields = plan.checked.fields; tie = plan.tie }

-- what is read of each line
abbrev pub wanted_of : Planned → Wanted
wanted_of plan = record { fields = plan.fields; tie = plan.tie }

-- what a line gives, by what an event says; the place of its event is 0
abbrev pub got_of : (Fields → List Route) → (shard line : ℕ) → LineRead → LineGot
got_of said shard line read.Blank = got.Blank
got_of said shard line (read.Bad reason) = got.Bad reason
got_of said shard line (read.Event f) =
    got.Item (record { order = record { ts = f.ts; tie = f.tie; shard = shard; line = line; at = 0 }; routes = said f })

-- what an event says to the query
abbrev pub routes_in : Planned → Fields → List Route
routes_in plan f = routes_of plan.fields f.categories f.slots (stages_in plan.query.body) (until_in plan.query.body)

-- what a line gives to the query, by its shard, its number and its bytes
abbrev pub line_of : Planned → (shard line : ℕ) → List ℕ → LineGot
line_of plan shard line bytes = got_of (routes_in plan) shard line (line_read (wanted_of plan) bytes)

-- the same, as laws of whole texts speak of it
abbrev pub reads_of : Planned → Reads
reads_of = line_of

-- the run of the query, with a slack in nanoseconds
abbrev pub run_of : Planned → ℤ → Run
run_of plan slack = record {
  stages = length (stages_in plan.query.body);
  span = span_in plan.query.body;
  values = key_count plan.query.body;
  pipes = map pipe_of plan.query.pipes;
  slack = slack;
}
