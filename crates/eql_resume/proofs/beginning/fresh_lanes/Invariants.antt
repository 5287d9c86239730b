use Rattle.std.proofs.Common.{◌≡◌}
use Rattle.eql_resume.specs.Beginnings.{fresh_starts}
use Rattle.eql_resume.proofs.beginning.fresh_lanes.Given as goal

abbrev pub invariant-loop : goal.invariant-loop
invariant-loop l = l.starts.items ≡ fresh_starts l.counter
