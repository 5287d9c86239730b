use Rattle.std.proofs.Common.{◌≡◌, vec_capacity, vec_len}
use Rattle.eql_lock_row.proofs.Walks.{LockSome}
use Rattle.eql_lock_row.proofs.whole.lock_all.Given as goal

abbrev pub invariant-loop-value : goal.invariant-loop-value
invariant-loop-value g l =
    LockSome g.T.Turned.step_of g.T.Turned.is_open l.initial.values.items l.values.items l.locks.items l.passes.items
    × (vec_capacity l.values ≡ vec_capacity l.initial.values)
    × (vec_capacity l.locks ≡ vec_capacity l.initial.locks)
    × (vec_capacity l.passes ≡ vec_capacity l.initial.passes)

abbrev pub decreases-loop-value : goal.decreases-loop-value
decreases-loop-value g l = vec_len l.values
