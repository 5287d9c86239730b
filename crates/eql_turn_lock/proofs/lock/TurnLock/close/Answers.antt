use Rattle.std.proofs.Common.{rules, sym, ◌∙◌, subst}
use Rattle.eql_turn_lock.specs.Calls.{Closes}
use Rattle.eql_turn_lock.proofs.Keeps.{inject, closes_now}
use Rattle.eql_turn_lock.proofs.lock.TurnLock.close.Goals as goal

pub unwrap-requires : goal.unwrap-requires
unwrap-requires g c = let end = closes_now g.T.Turned.step_of g.T.Turned.is_open g.T.Turned.is_idle c.args.self.table.shared.key.value _ _ _ _ c.take-value.result c.close_with-closed.ensures.values.2 c.args.pass.idle.2 c.requires.first c.args.pass.idle.1 c.requires.all_joined c.take-value.ensures.value in search (rules, end.1)

pub returns : goal.returns
returns g c = let end = closes_now g.T.Turned.step_of g.T.Turned.is_open g.T.Turned.is_idle c.args.self.table.shared.key.value _ _ _ _ c.take-value.result c.close_with-closed.ensures.values.2 c.args.pass.idle.2 c.requires.first c.args.pass.idle.1 c.requires.all_joined c.take-value.ensures.value in
    subst (Closes g.T.Turned.step_of g.T.Turned.is_open c.args.pass.seat.me.0) (inject (sym end.1 ∙ c.unwrap.ensures)) end.2
