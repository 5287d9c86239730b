use Rattle.std.proofs.Common.{rules, refl, sym, ap, ◌∙◌, subst}
use Rattle.eql_turn_lock.specs.Passes.{is_live, KnowsHistory}
use Rattle.eql_turn_lock.proofs.Keeps.{loads_now, loads_idle_now, takes_turn_now}
use Rattle.eql_turn_lock.proofs.Turns.{knows_looked, played_once, met_idle}
use Rattle.eql_turn_lock.proofs.lock.TurnLock.try_unless_idle.Goals as goal

pub load-word-requires : goal.load-word-requires
load-word-requires g c = (search rules, search rules, loads_now g.T.Turned.step_of g.T.Turned.is_open g.T.Turned.is_idle _ _ _ _ c.args.pass.now.idle.2)

pub load-idle-requires : goal.load-idle-requires
load-idle-requires g c = (search rules, search rules, loads_idle_now g.T.Turned.step_of g.T.Turned.is_open g.T.Turned.is_idle _ _ _ _ (ap (λ m. is_live m.0) c.load-word.ensures.2.0 ∙ c.args.pass.now.idle.2))

pub compare_exchange-found-requires : goal.compare_exchange-found-requires
compare_exchange-found-requires g c = (search rules, search rules, takes_turn_now g.T.Turned.step_of g.T.Turned.is_open g.T.Turned.is_idle _ _ _ _ _ _ (ap (λ m. is_live m.0) (c.load-idle.ensures.2.0 ∙ c.load-word.ensures.2.0) ∙ c.args.pass.now.idle.2) (search rules) refl)

pub returns-then-word-ge-WORN-clause-knows : goal.returns-then-word-ge-WORN-clause-knows
returns-then-word-ge-WORN-clause-knows g c = let look = c.load-word.ensures.2 in
    subst (λ m. KnowsHistory g.T.Turned.step_of g.T.Turned.is_open m.0) (sym look.0) (knows_looked g.T.Turned.step_of g.T.Turned.is_open c.load-word.result c.args.pass.now.seat.me.0 look.2)

pub returns-then-word-eq1-clause-knows : goal.returns-then-word-eq1-clause-knows
returns-then-word-eq1-clause-knows g c = let look = c.load-word.ensures.2 in
    subst (λ m. KnowsHistory g.T.Turned.step_of g.T.Turned.is_open m.0) (sym look.0) (knows_looked g.T.Turned.step_of g.T.Turned.is_open c.load-word.result c.args.pass.now.seat.me.0 look.2)

pub returns-then-idle-word-clause-knows : goal.returns-then-idle-word-clause-knows
returns-then-idle-word-clause-knows g c = let look = c.load-word.ensures.2 in
    subst (λ m. KnowsHistory g.T.Turned.step_of g.T.Turned.is_open m.0) (sym (c.load-idle.ensures.2.0 ∙ look.0)) (knows_looked g.T.Turned.step_of g.T.Turned.is_open c.load-word.result c.args.pass.now.seat.me.0 look.2)

pub returns-then-idle-word-clause-played : goal.returns-then-idle-word-clause-played
returns-then-idle-word-clause-played g c = let look = c.load-word.ensures.2 in let then = c.load-idle.ensures.2 in
    let told = met_idle g.T.Turned.step_of g.T.Turned.is_idle c.args.pass.now.seat.me.0 c.load-word.new.seat.me.0 c.load-idle.new.seat.me.0 c.load-word.result c.load-idle.result
    (search rules) c.if-idle-word.true (ap (λ m. m.0) look.0) (ap (λ m. m.0) then.0) look.3 then.1 in (refl, told.0, told.1)

pub returns-then-found-word-clause-knows : goal.returns-then-found-word-clause-knows
returns-then-found-word-clause-knows g c = let lost = c.compare_exchange-found.ensures.2.1 c.if-found-word.true in
    subst (λ m. KnowsHistory g.T.Turned.step_of g.T.Turned.is_open m.0) (sym lost.0) (knows_looked g.T.Turned.step_of g.T.Turned.is_open c.compare_exchange-found.result c.load-idle.new.seat.me.0 lost.1)

pub returns-clause-played : goal.returns-clause-played
returns-clause-played g c = let same = c.load-idle.ensures.2.0 ∙ c.load-word.ensures.2.0 in let won = c.compare_exchange-found.ensures.2.0 (search rules) (search rules) in
    played_once g.T.Turned.allows g.T.Turned.step_of g.T.Turned.is_open c.args.pass.now.seat.me.0 c.compare_exchange-found.new.seat.me.0 c.load-word.result _ _ c.play_in_turn.new.seat.me.0
    (search rules) (won.1.0 ∙ ap (λ m. m.0.number) same, won.1.1 ∙ ap (λ m. m.0.opening) same, won.1.2 ∙ ap (λ m. m.0.seen) same, won.1.3 ∙ ap (λ m. m.0.mine) same, won.1.4 ∙ ap (λ m. m.0.looked) same, won.1.5 ∙ ap (λ m. m.0.made) same, won.1.6 ∙ ap (λ m. m.0.ended) same)
    c.play_in_turn.ensures.played c.play_in_turn.ensures.counted
