use Rattle.eql_lines.specs.Steps.{IsTable, IsGrown}
use Rattle.eql_lines.proofs.Stepping.{LeadsBelow}
use Rattle.eql_lines.proofs.steps.Table.add_all.Given as goal

abbrev pub invariant-loop-end : goal.invariant-loop-end
invariant-loop-end l = IsTable l.paths.paths.items l.self × IsGrown l.initial.self l.self × LeadsBelow l.self l.from l.rest l.end
