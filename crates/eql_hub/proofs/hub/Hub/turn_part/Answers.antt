use Rattle.std.proofs.Common.{inl, subst}
use Rattle.std.specs.Prelude.{MatchOption}
use Rattle.eql_turn_lock.specs.Passes.{KnowsHistory}
use Rattle.eql_lock_row.specs.Rows.{ChangesAt}
use Rattle.eql_hub.specs.Hands.{HandView}
use Rattle.eql_hub.specs.Steps.{PartEnds, PartIsIdle}
use Rattle.eql_hub.specs.Turns.{IsPartTurn, is_open_part}
use Rattle.eql_hub.proofs.Tries.{batch_open, part_try}
use Rattle.eql_hub.proofs.hub.Hub.turn_part.Goals as goal

pub try_unless_idle-tried-requires-clause-may : goal.try_unless_idle-tried-requires-clause-may
try_unless_idle-tried-requires-clause-may g c v at = inl (batch_open c.args.batch c.requires.batch_from c.requires.batch_to)

pub returns-clause-parts : goal.returns-clause-parts
returns-clause-parts g c =
    subst (λ (h : HandView _ _). ChangesAt c.args.part
    (λ (v w : _). MatchOption c.after_turn.result (PartIsIdle c.args.batch v w) (λ did. PartEnds c.args.batch did c.args.part v w)
    × KnowsHistory IsPartTurn is_open_part w)
    h.parts.views c.try_unless_idle-tried.new.passes.views) c.hand.view_is
    (part_try c.args.batch c.args.part c.try_unless_idle-tried.result c.after_turn.result
    c.hand.inside.parts.views c.try_unless_idle-tried.new.passes.views c.after_turn.ensures c.try_unless_idle-tried.ensures.played)
