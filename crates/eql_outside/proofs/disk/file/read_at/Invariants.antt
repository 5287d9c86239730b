use Rattle.std.proofs.Common.{◌≤◌, ◌-◌, vec_len}
use Rattle.eql_outside.proofs.disk.file.read_at.Given as goal

abbrev pub invariant-loop-piece : goal.invariant-loop-piece
invariant-loop-piece g l = vec_len l.bytes ≤ l.len

abbrev pub decreases-loop-piece : goal.decreases-loop-piece
decreases-loop-piece g l = l.len - vec_len l.bytes
