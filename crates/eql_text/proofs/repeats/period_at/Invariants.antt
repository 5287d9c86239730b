use Rattle.std.proofs.Common.{◌≡◌, drop}
use Rattle.eql_text.specs.Repeats.{period_at}
use Rattle.eql_text.proofs.repeats.period_at.Given as goal

abbrev pub invariant-loop-run : goal.invariant-loop-run
invariant-loop-run l = period_at (drop l.run-index l.runs) l.met ≡ period_at l.runs l.met
