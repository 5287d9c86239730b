use Rattle.std.proofs.Common.{◌≡◌, ℕ, ◌<◌, true}
use Rattle.eql_lines.specs.Places.{in_set}
use Rattle.eql_lines.proofs.paths.Paths.whole.Given as goal

abbrev pub invariant-loop-place : goal.invariant-loop-place
invariant-loop-place l = (i : ℕ) → i < l.place → in_set l.places i ≡ true
