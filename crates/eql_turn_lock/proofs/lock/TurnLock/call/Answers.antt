use Rattle.std.proofs.Common.{rules, ◌≢◌, refl, sym, ap, ◌∙◌, subst}
use Rattle.eql_turn_lock.specs.Passes.{is_live, KnowsHistory}
use Rattle.eql_turn_lock.specs.Rule.{looked_at}
use Rattle.eql_turn_lock.proofs.Turns.{knows_looked, tried_held, tried_moved, played_after}
use Rattle.eql_turn_lock.proofs.Keeps.{loads_now, takes_turn_now}
use Rattle.eql_turn_lock.proofs.lock.TurnLock.call.Goals as goal

pub load-word-requires : goal.load-word-requires
load-word-requires g c = (search rules, search rules, loads_now g.T.Turned.step_of g.T.Turned.is_open g.T.Turned.is_idle _ _ _ _ c.loop.invariant.2)

pub compare_exchange-found-requires : goal.compare_exchange-found-requires
compare_exchange-found-requires g c = (search rules, search rules, takes_turn_now g.T.Turned.step_of g.T.Turned.is_open g.T.Turned.is_idle _ _ _ _ _ _ (ap (λ m. is_live m.0) c.load-word.ensures.2.0 ∙ c.loop.invariant.2) (search rules) refl)

pub loop-preserved-else-found-word : goal.loop-preserved-else-found-word
loop-preserved-else-found-word g c = let look = c.load-word.ensures.2 in let other : c.compare_exchange-found.result ≢ c.load-word.result = search rules in let lost = c.compare_exchange-found.ensures.2.1 other in (
  tried_moved _ _ _ c.load-word.result c.compare_exchange-found.result c.loop.invariant.0 (search rules) c.if-word-eq0.true other
      (ap (λ m. m.0) lost.0 ∙ ap (λ m. looked_at c.compare_exchange-found.result m.0) look.0),
  search rules,
  search rules,
  search rules,
  search rules,
)

pub loop-preserved : goal.loop-preserved
loop-preserved g c = let look = c.load-word.ensures.2 in (
  tried_held _ _ _ c.load-word.result c.loop.invariant.0 (search rules) (search rules) (ap (λ m. m.0) look.0),
  search rules,
  search rules,
  search rules,
  search rules,
)

pub returns-then-word-ge-WORN-clause-knows : goal.returns-then-word-ge-WORN-clause-knows
returns-then-word-ge-WORN-clause-knows g c = let look = c.load-word.ensures.2 in
    subst (λ m. KnowsHistory g.T.Turned.step_of g.T.Turned.is_open m.0) (sym look.0) (knows_looked g.T.Turned.step_of g.T.Turned.is_open c.load-word.result c.loop.pass.seat.me.0 look.2)

pub returns-then-found-word-clause-played : goal.returns-then-found-word-clause-played
returns-then-found-word-clause-played g c = let look = c.load-word.ensures.2 in let won = c.compare_exchange-found.ensures.2.0 c.if-found-word.true (search rules) in
    played_after g.T.Turned.allows g.T.Turned.step_of g.T.Turned.is_open c.args.pass.now.seat.me.0 c.loop.pass.seat.me.0 c.compare_exchange-found.new.seat.me.0 c.load-word.result _ _ c.play_in_turn.new.seat.me.0
    c.loop.invariant.0 look.1 (search rules) (won.1.0 ∙ ap (λ m. m.0.number) look.0, won.1.1 ∙ ap (λ m. m.0.opening) look.0, won.1.2 ∙ ap (λ m. m.0.seen) look.0, won.1.3 ∙ ap (λ m. m.0.mine) look.0, won.1.4 ∙ ap (λ m. m.0.looked) look.0, won.1.5 ∙ ap (λ m. m.0.made) look.0, won.1.6 ∙ ap (λ m. m.0.ended) look.0) c.play_in_turn.ensures.played c.play_in_turn.ensures.counted

pub returns-then-word-ge-WORN-clause-played : goal.returns-then-word-ge-WORN-clause-played
returns-then-word-ge-WORN-clause-played g c = search rules
