use Rattle.std.proofs.Common.{◌≡◌, true, []}
use Rattle.eql_turn_lock.specs.Passes.{is_live}
use Rattle.eql_turn_lock.proofs.Turns.{OnlyTried}
use Rattle.eql_turn_lock.proofs.lock.TurnLock.call.Given as goal

abbrev pub invariant-loop : goal.invariant-loop
invariant-loop g l = OnlyTried l.initial.pass.seat.me.0 l.pass.seat.me.0 × (l.pass.seat.me.1 ≡ []) × (is_live l.pass.seat.me.0 ≡ true) × (l.pass.seat.table_id ≡ l.initial.pass.seat.table_id) × (l.pass.seat.id ≡ l.initial.pass.seat.id)
