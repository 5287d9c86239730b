use Rattle.eql_lines.specs.Steps.{IsTable, IsGrown}
use Rattle.eql_lines.proofs.Stepping.{Opened}
use Rattle.eql_lines.proofs.steps.Table.open.Given as goal

abbrev pub invariant-loop-place : goal.invariant-loop-place
invariant-loop-place l = IsTable l.paths.paths.items l.self × IsGrown l.initial.self l.self × Opened l.paths.paths.items l.self l.active l.from l.left

abbrev pub decreases-loop-place : goal.decreases-loop-place
decreases-loop-place l = l.left.bits
