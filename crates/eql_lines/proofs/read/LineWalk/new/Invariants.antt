use Rattle.std.proofs.Common.{◌≡◌, length}
use Rattle.eql_lines.proofs.read.LineWalk.new.Given as goal

abbrev pub invariant-loop-place : goal.invariant-loop-place
invariant-loop-place l = length l.slots.items ≡ l._place
