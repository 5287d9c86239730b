use Rattle.std.proofs.Common.{rules, sym, ap, ◌∙◌, subst}
use Rattle.eql_turn_lock.specs.Passes.{is_live, KnowsHistory}
use Rattle.eql_turn_lock.proofs.Keeps.{joins_now, learns_now}
use Rattle.eql_turn_lock.proofs.Turns.{joined_seen}
use Rattle.eql_turn_lock.proofs.lock.TurnLock.join.Goals as goal

pub join_seat-requires : goal.join_seat-requires
join_seat-requires g c = (search rules, search rules, search rules, search rules, joins_now g.T.Turned.step_of g.T.Turned.is_open g.T.Turned.is_idle _ _ _ _ _ c.args.pass.now.idle.2 c.requires.first c.args.other.idle.2 c.args.other.idle.1)

pub load-requires : goal.load-requires
load-requires g c = (search rules, search rules, learns_now g.T.Turned.step_of g.T.Turned.is_open g.T.Turned.is_idle _ _ _ _ (ap (λ m. is_live m.0) c.join_seat.ensures.2 ∙ c.args.pass.now.idle.2))

pub returns-clause-knows : goal.returns-clause-knows
returns-clause-knows g c = let learnt = c.load.ensures.2 in subst (λ m. KnowsHistory g.T.Turned.step_of g.T.Turned.is_open m.0) (sym learnt.0) learnt.1

pub returns-clause-seen : goal.returns-clause-seen
returns-clause-seen g c = let learnt = c.load.ensures.2 in let knows = subst (λ m. KnowsHistory g.T.Turned.step_of g.T.Turned.is_open m.0) (sym learnt.0) learnt.1 in
    joined_seen c.args.pass.now.seat.me.0 c.args.other.seat.me.0 c.load.new.seat.me.0 (ap (λ m. m.0) learnt.0 ∙ ap (λ m. m.0) c.join_seat.ensures.2)
    (knows.ended_in (ap (λ m. m.0.number) learnt.0 ∙ (ap (λ m. m.0.number) c.join_seat.ensures.2 ∙ c.requires.first)))
