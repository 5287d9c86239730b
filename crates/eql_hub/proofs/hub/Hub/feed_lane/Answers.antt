use Rattle.std.proofs.Common.{inl, subst}
use Rattle.std.specs.Prelude.{MatchOption}
use Rattle.eql_turn_lock.specs.Passes.{KnowsHistory}
use Rattle.eql_lock_row.specs.Rows.{ChangesAt}
use Rattle.eql_hub.specs.Hands.{HandView}
use Rattle.eql_hub.specs.Steps.{LaneEnds, LaneIsIdle}
use Rattle.eql_hub.specs.Turns.{IsLaneTurn, is_open_lane}
use Rattle.eql_hub.proofs.Tries.{batch_open, lane_try}
use Rattle.eql_hub.proofs.hub.Hub.feed_lane.Goals as goal

pub try_unless_idle-tried-requires-clause-may : goal.try_unless_idle-tried-requires-clause-may
try_unless_idle-tried-requires-clause-may g c v at = inl (batch_open c.args.batch c.requires.batch_from c.requires.batch_to)

pub returns-clause-lanes : goal.returns-clause-lanes
returns-clause-lanes g c =
    subst (λ (h : HandView _ _). ChangesAt c.args.lane
    (λ (v w : _). MatchOption c.after_feed.result (LaneIsIdle g.S.Source.left g.S.Source.lent_as g.S.Source.fault_plan g.L.LineReader.read_of c.args.batch v w) (λ did. LaneEnds g.S.Source.left g.S.Source.lent_as g.S.Source.fault_plan g.L.LineReader.read_of c.args.batch did c.args.lane v w)
    × KnowsHistory (IsLaneTurn g.S.Source.left g.S.Source.lent_as g.S.Source.fault_plan g.L.LineReader.read_of) is_open_lane w)
    h.lanes.views c.try_unless_idle-tried.new.passes.views) c.hand.view_is
    (lane_try g.S.Source.left g.S.Source.lent_as g.S.Source.fault_plan g.L.LineReader.read_of c.args.batch c.args.lane c.try_unless_idle-tried.result c.after_feed.result
    c.hand.inside.lanes.views c.try_unless_idle-tried.new.passes.views c.after_feed.ensures c.try_unless_idle-tried.ensures.played)
