-- A search, and what it finds and lists over texts.
use Rattle.std.specs.Prelude.{ℕ, ◌+◌, ◌*◌, ℤ, pos, Bool, List, [], ◌∷◌, ◌++◌, drop, map, length, Option, codes}
use Rattle.std.specs.Option.{option_map}
use Rattle.eql_values.specs.declared.value.Kind.{Kind}
use Rattle.eql_values.specs.declared.found.Match.{Match}
use Rattle.eql_values.specs.declared.found.Numbered.{Numbered}
use Rattle.eql_values.specs.declared.cut.Counts.{Counts}
use Rattle.eql_values.specs.declared.cut.Pipe.{Pipe}
use Rattle.eql_values.specs.Accepted.{Reads, all_events}
use Rattle.eql_values.specs.Matching.{matches}
use Rattle.eql_values.specs.Numbering.{numbered_matches, pipe_output}
use Rattle.eql_laws.specs.Counting.{counts_of}
use Rattle.eql_laws.specs.Fitting.{Run}
use Rattle.eql_query.specs.QueryTree.{QueryTree}
use Rattle.eql_check.specs.Kinds.{kind_at}
use Rattle.eql_check.specs.Used.{used_fields}
use Rattle.eql_stages.specs.Stages.{stages_in, span_in, pipe_of}
use Rattle.eql_stages.specs.Planned.{Planned}
use Rattle.eql_stages.specs.Planned as plan
use Rattle.eql_book.specs.Listing.{listing}
use Rattle.eql_book.specs.Report.{report_text}

-- what is searched: a query that is checked against a mapping, the tiebreaker field, the slack in
-- milliseconds, and whether places are listed
pub record Search : Type 0 where
  pub query : QueryTree
  pub mapping : List (List ℕ × Kind)
  pub tie : Option (List ℕ)
  pub slack : Option ℕ
  pub places : Bool

-- milliseconds in nanoseconds
abbrev pub nanos_in : ℕ → ℤ
nanos_in milliseconds = pos (milliseconds * 1000000)

-- the lines of a report from this shard on, one for each of these counts
abbrev pub report_lines : (shard : ℕ) → List Counts → List ℕ
report_lines shard [] = []
report_lines shard (counts ∷ others) =
    report_text shard counts ++ codes "\n" ++ report_lines (shard + 1) others

module _ (search : Search) where
  -- the query as it is planned
  abbrev pub plan_of : Planned
  plan_of = record {
    query = search.query;
    fields = used_fields (kind_at search.mapping) search.query;
    tie = search.tie;
  }

  -- what lines give
  abbrev pub reads_of : Reads
  reads_of = plan.reads_of plan_of

  -- the slack in nanoseconds
  abbrev pub slack_of : Option ℤ
  slack_of = option_map nanos_in search.slack

  abbrev pub stages_of : ℕ
  stages_of = length (stages_in search.query.body)

  abbrev pub pipes_of : List Pipe
  pipes_of = map pipe_of search.query.pipes

  -- the matches over the accepted events of the texts, in their order
  abbrev pub matches_of : List (List ℕ) → List Match
  matches_of texts =
      matches stages_of (span_in search.query.body) [] (all_events reads_of slack_of texts)

  -- the matches that the pipes let through, with their numbers
  abbrev pub listed_of : List (List ℕ) → List Numbered
  listed_of texts = pipe_output pipes_of (numbered_matches (matches_of texts))

  -- the listing
  abbrev pub listing_of : List (List ℕ) → List ℕ
  listing_of texts = listing search.places (listed_of texts)

  -- the listing from the line after the first l on
  abbrev pub rest_of : (l : ℕ) → List (List ℕ) → List ℕ
  rest_of l texts = listing search.places (drop l (listed_of texts))

  -- what became of the lines of each text, from this shard on
  abbrev pub shard_counts_from : (shard : ℕ) → List (List ℕ) → List Counts
  shard_counts_from shard [] = []
  shard_counts_from shard (text ∷ texts) =
      counts_of reads_of slack_of shard text ∷ shard_counts_from (shard + 1) texts

  -- the report
  abbrev pub report_of : List (List ℕ) → List ℕ
  report_of texts = report_lines 0 (shard_counts_from 0 texts)

  -- what a cut depends on of the search, at a slack in milliseconds
  abbrev pub run_of : ℕ → Run
  run_of slack = plan.run_of plan_of (nanos_in slack)
