use Rattle.std.proofs.Common.{◌≡◌, ◌≤◌, ◌+◌, ◌∷◌, [], drop, length, Some, arith}
use Rattle.eql_code.specs.Machine.{runs}
use Rattle.eql_code.specs.Stack.{stack_of, gives}
use Rattle.eql_code.proofs.Runs.{can_step, goes_on, free_from}
use Rattle.eql_code.proofs.machine.play.Goals as goal
use Rattle.eql_code.proofs.machine.play.Goals.{In_ok-passed}

pub step-requires-clause-can : goal.step-requires-clause-can
step-requires-clause-can c =
    can_step c.args.frame.now.slots.now c.args.limit c.args.frame.now.ops.now c.loop-at.at _ _ _ (omega (arith, c.loop-at-test.true)) (omega (arith, c.requires.room, c.loop-at.invariant.1)) c.loop-at.invariant.0

next : (c : In_ok-passed) → (c.loop-at.at + (1 + c.in_ok-passed.passed) ≤ length c.args.frame.now.ops.now)
    × (runs c.args.frame.now.slots.now c.args.limit 0 (drop (c.loop-at.at + (1 + c.in_ok-passed.passed)) c.args.frame.now.ops.now)
    (stack_of c.args.frame.now.ops.now c.args.frame.now.slots.now c.step.new.cells.items)
    ≡ Some (gives (c.args.frame.now.ops.now, c.args.limit) c.args.frame.now.slots.now ∷ []))
next c =
    goes_on c.args.frame.now.slots.now c.args.limit c.args.frame.now.ops.now c.loop-at.at _ _ _ _ (omega (arith, c.loop-at-test.true)) c.loop-at.invariant.0
    c.in_ok-passed.ensures.did c.in_ok-passed.ensures.passed

pub overflow_add-at : goal.overflow_add-at
overflow_add-at c = omega (arith, (next (goal.at.overflow_add-at c).In_ok-passed).0, c.type_inv.frame)

pub overflow_add-at-in-loop-at : goal.overflow_add-at-in-loop-at
overflow_add-at-in-loop-at c = omega (arith, (next (goal.at.overflow_add-at-in-loop-at c).In_ok-passed).0, c.type_inv.frame)

pub loop-at-preserved : goal.loop-at-preserved
loop-at-preserved c = (
  (next (goal.at.loop-at-preserved c).In_ok-passed).1,
  omega (arith, c.loop-at.invariant.1, c.in_ok-passed.ensures.capacity),
  λ free. free_from (c.loop-at.at + (1 + c.in_ok-passed.passed)) c.args.frame.now.ops.now free,
)
