use Rattle.std.proofs.Common.{◌≡◌, Some, drop}
use Rattle.eql_check.specs.Functions.{one_of, lies_in}
use Rattle.eql_operators.proofs.calls.lies_in.Given as goal

abbrev pub invariant-loop-place : goal.invariant-loop-place
invariant-loop-place g l =
    one_of (Some l.found) (lies_in l.ip (drop l.place (g.A.Arguments.values l.args))) ≡ lies_in l.ip (drop 1 (g.A.Arguments.values l.args))
