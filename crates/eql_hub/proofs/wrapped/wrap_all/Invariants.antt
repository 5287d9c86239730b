use Rattle.std.proofs.Common.{◌≡◌, vec_capacity, vec_len}
use Rattle.eql_hub.proofs.Lists.{Moved}
use Rattle.eql_hub.proofs.wrapped.wrap_all.Given as goal

abbrev pub invariant-loop-lane : goal.invariant-loop-lane
invariant-loop-lane g l = Moved l.initial.lanes.items l.lanes.items l.wrapped.items × (vec_capacity l.wrapped ≡ vec_capacity l.initial.wrapped)

abbrev pub decreases-loop-lane : goal.decreases-loop-lane
decreases-loop-lane g l = vec_len l.lanes
