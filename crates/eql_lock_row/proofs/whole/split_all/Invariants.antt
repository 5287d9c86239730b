use Rattle.std.proofs.Common.{◌≡◌, vec_capacity}
use Rattle.eql_lock_row.proofs.Walks.{SplitSome}
use Rattle.eql_lock_row.proofs.whole.split_all.Given as goal

abbrev pub invariant-loop-place : goal.invariant-loop-place
invariant-loop-place g l =
    SplitSome g.T.Turned.step_of g.T.Turned.is_open l.place l.locks.items l.initial.passes.items l.passes.items l.new.items
    × (vec_capacity l.new ≡ vec_capacity l.initial.new)
