use Rattle.std.proofs.Common.{length}
use Rattle.eql_lock_row.proofs.Walks.{JoinSome}
use Rattle.eql_lock_row.proofs.whole.join_all.Given as goal

abbrev pub invariant-loop-other : goal.invariant-loop-other
invariant-loop-other g l =
    JoinSome g.T.Turned.step_of g.T.Turned.is_open (length l.others.items) l.locks.items l.initial.passes.items l.initial.others.items l.passes.items l.others.items

abbrev pub decreases-loop-other : goal.decreases-loop-other
decreases-loop-other g l = goal.left-loop-other g l
