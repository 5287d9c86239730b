use Rattle.eql_parts.proofs.Played.{played_more, played_none}
use Rattle.eql_parts.proofs.waiting.Waiting.play_some.Goals as goal

pub loop-items-init : goal.loop-items-init
loop-items-init g c = played_none c.after_none.ensures c.args.self.now c.stands.ensures

pub loop-items-preserved : goal.loop-items-preserved
loop-items-preserved g c =
    played_more c.after_split.ensures c.matches_split.ensures c.args.self.now c.loop-items.self c.play_first.new.self c.loop-items.items 1 c.loop-items.invariant
    c.in-Ok.ensures.played
