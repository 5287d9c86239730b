use Rattle.std.proofs.Common.{◌≡◌, ◌++◌, length}
use Rattle.eql_lane.proofs.held.Held.into_items.Given as goal

abbrev pub invariant-loop-item : goal.invariant-loop-item
invariant-loop-item l = l.items.items ++ l.held ≡ l.fn.self

abbrev pub decreases-loop-item : goal.decreases-loop-item
decreases-loop-item l = length l.held
