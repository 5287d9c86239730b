use Rattle.std.proofs.Common.{◌≡◌, vec_capacity, vec_len}
use Rattle.eql_hub.proofs.Lists.{Moved}
use Rattle.eql_hub.proofs.wrapped.unwrap_all.Given as goal

abbrev pub invariant-loop-lane : goal.invariant-loop-lane
invariant-loop-lane g l = Moved l.initial.wrapped.items l.wrapped.items l.lanes.items × (vec_capacity l.lanes ≡ vec_capacity l.initial.lanes)

abbrev pub decreases-loop-lane : goal.decreases-loop-lane
decreases-loop-lane g l = vec_len l.wrapped
