use Rattle.eql_laws.proofs.LineLemmas as lines
use Rattle.eql_laws.proofs.places.lines_go_on.Goals as goal

pub returns-clause-once : goal.returns-clause-once
returns-clause-once c = lines.lines_go_on

pub returns-clause-step_by_step : goal.returns-clause-step_by_step
returns-clause-step_by_step c = lines.lines_step_on

pub returns-clause-line_by_line : goal.returns-clause-line_by_line
returns-clause-line_by_line c = lines.line_by_line
