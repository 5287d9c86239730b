use Rattle.std.proofs.Common.{◌≡◌, ◌-◌, length, ◌∷◌, [], drop, Some, true}
use Rattle.std.specs.Prelude.{vec_capacity}
use Rattle.eql_code.specs.Machine.{runs}
use Rattle.eql_code.specs.Stack.{stack_of, gives, is_free}
use Rattle.eql_code.proofs.machine.play.Given as goal

abbrev pub invariant-loop-at : goal.invariant-loop-at
invariant-loop-at l =
    (runs l.frame.slots.now l.limit 0 (drop l.at l.frame.ops.now) (stack_of l.frame.ops.now l.frame.slots.now l.cells.items) ≡ Some (gives (l.frame.ops.now, l.limit) l.frame.slots.now ∷ []))
    × (vec_capacity l.cells ≡ vec_capacity l.initial.cells)
    × (is_free l.frame.ops.now ≡ true → is_free (drop l.at l.frame.ops.now) ≡ true)

abbrev pub decreases-loop-at : goal.decreases-loop-at
decreases-loop-at l = length l.frame.ops.now - l.at
