use Rattle.std.proofs.Common.{◌≡◌, drop}
use Rattle.eql_lines.specs.Steps.{step_in}
use Rattle.eql_lines.proofs.steps.step_in.Given as goal

abbrev pub invariant-loop-step : goal.invariant-loop-step
invariant-loop-step l = step_in l.row l.from l.name ≡ step_in (drop l.step-index l.row) l.from l.name
