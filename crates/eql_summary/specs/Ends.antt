-- The ends of lines.
use Rattle.std.specs.Prelude.{◌≡◌, ℕ, List, length}
use Rattle.eql_runs.specs.Summaries.{first_or_none, last_or_none}
use Rattle.eql_summary.specs.declared.ends.Ends.{Ends}

-- how many these lines are, and the first and the last of them
pub record AreEnds (lines : List (List ℕ)) (ends : Ends) : Type 0 where
  pub count : ends.count ≡ length lines
  pub first : ends.first.now ≡ first_or_none lines
  pub last : ends.last.now ≡ last_or_none lines
