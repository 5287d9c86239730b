use Rattle.std.proofs.Common.{◌+◌, ◌≤◌, length, vec_capacity, vec_len}
use Rattle.eql_lock_row.proofs.Walks.{UnlockSome}
use Rattle.eql_lock_row.proofs.whole.unlock_all.Given as goal

abbrev pub invariant-loop-lock : goal.invariant-loop-lock
invariant-loop-lock g l =
    UnlockSome g.T.Turned.step_of g.T.Turned.is_open (length l.locks.items) l.initial.locks.items l.initial.passes.items l.initial.values.items
    l.locks.items l.passes.items l.values.items
    × (vec_len l.values + length l.locks.items ≤ vec_capacity l.values)

abbrev pub decreases-loop-lock : goal.decreases-loop-lock
decreases-loop-lock g l = vec_len l.locks
