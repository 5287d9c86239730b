use Rattle.std.proofs.Common.{length}
use Rattle.eql_outside.proofs.disk.store.+left_after.Given as goal

-- one write less at a time
abbrev pub decreases-left_after : goal.decreases-left_after
decreases-left_after l = length l.writes.now
