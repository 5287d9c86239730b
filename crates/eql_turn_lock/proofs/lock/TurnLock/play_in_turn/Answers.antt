use Rattle.std.proofs.Common.{rules, ◌++◌, sym, ◌∙◌}
use Rattle.eql_turn_lock.specs.History.{entry}
use Rattle.eql_turn_lock.proofs.Keeps.{tells_idle_now}
use Rattle.eql_turn_lock.proofs.lock.TurnLock.play_in_turn.Goals as goal

pub store-requires : goal.store-requires
store-requires g c = let played = c.play_and_end-reply.ensures.played in let before = c.args.seat.now.me.0 in (
  search rules,
  search rules,
  tells_idle_now g.T.Turned.step_of g.T.Turned.is_open g.T.Turned.is_idle _ _ _ _ _ c.play_and_end-reply.ensures.idle.2 c.play_and_end-reply.ensures.counted
      (before.seen ++ played.between, entry before.number c.args.op c.play_and_end-reply.result, played.seen, sym c.idles.ensures ∙ c.if-idles.true),
)
