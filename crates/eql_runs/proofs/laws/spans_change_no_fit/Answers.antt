use Rattle.eql_runs.proofs.OwnCuts.{any_span}
use Rattle.eql_runs.proofs.laws.spans_change_no_fit.Goals as goal

pub returns : goal.returns
returns c = any_span
