use Rattle.std.proofs.Common.{rules, subst}
use Rattle.eql_turn_lock.specs.Passes.{KnowsHistory}
use Rattle.eql_turn_lock.proofs.Keeps.{splits_now}
use Rattle.eql_turn_lock.proofs.Turns.{knows_first}
use Rattle.eql_turn_lock.proofs.lock.TurnLock.split.Goals as goal

pub split_seat-requires : goal.split_seat-requires
split_seat-requires g c = (search rules, search rules, splits_now g.T.Turned.step_of g.T.Turned.is_open g.T.Turned.is_idle _ _ _ c.args.pass.now.idle.2 c.requires.first)

pub returns-clause-knows : goal.returns-clause-knows
returns-clause-knows g c k = let both = knows_first g.T.Turned.step_of g.T.Turned.is_open c.args.pass.now.seat.me.0 c.requires.first k in (
  subst (KnowsHistory g.T.Turned.step_of g.T.Turned.is_open) (search rules) both.0,
  subst (KnowsHistory g.T.Turned.step_of g.T.Turned.is_open) (search rules) both.1,
)
