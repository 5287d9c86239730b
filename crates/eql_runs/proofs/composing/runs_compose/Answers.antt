use Rattle.eql_runs.proofs.RowsOfRuns.{equal_numbers_equal_lines, every_line_is_listed, only_lines_are_listed}
use Rattle.eql_runs.proofs.composing.runs_compose.Goals as goal

pub returns-clause-every : goal.returns-clause-every
returns-clause-every c = every_line_is_listed

pub returns-clause-only : goal.returns-clause-only
returns-clause-only c = only_lines_are_listed

pub returns-clause-once : goal.returns-clause-once
returns-clause-once c = equal_numbers_equal_lines
