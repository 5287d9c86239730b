use Rattle.std.proofs.Common.{rules, Some, None, arith}
use Rattle.eql_turn_lock.specs.declared.slot.Slot.{Slot}
use Rattle.eql_turn_lock.proofs.Keeps.{starts_now}
use Rattle.eql_turn_lock.proofs.lock.TurnLock.make.Goals as goal

pub new-requires : goal.new-requires
new-requires g c = let h : Slot g.row.T.Denot g.row.T-Op.Denot g.row.T-Reply.Denot = record { value = Some c.args.value; last = None } in
    starts_now g.T.Turned.step_of g.T.Turned.is_open g.T.Turned.is_idle c.of-opening.result.value c.push_reserved.new.self.items h 18446744073709551615 (search rules) (search rules) (omega arith)
