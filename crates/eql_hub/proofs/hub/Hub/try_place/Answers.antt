use Rattle.std.proofs.Common.{◌-◌, length, sym, ◌∙◌, arith}
use Rattle.eql_hub.proofs.Sweeping.{lane_tried, part_tried}
use Rattle.eql_hub.proofs.hub.Hub.try_place.Goals as goal

pub returns-else-place-lanes-clause-tried : goal.returns-else-place-lanes-clause-tried
returns-else-place-lanes-clause-tried g c =
    part_tried g.S.Source.left g.S.Source.lent_as g.S.Source.fault_plan g.L.LineReader.read_of c.args.batch c.args.self.now.alone (length c.args.self.now.lanes)
    c.args.place (c.args.place - c.lane_count-lanes.result) c.turn_part.result c.args.hand.now c.turn_part.new.hand (omega (arith, c.if-place-lanes.false, c.lane_count-lanes.ensures))
    (c.turn_part.ensures.own.parts ∙ sym c.requires.own.parts) c.turn_part.ensures.lanes c.turn_part.ensures.parts

pub returns-else-is_fed_alone-clause-tried : goal.returns-else-is_fed_alone-clause-tried
returns-else-is_fed_alone-clause-tried g c =
    lane_tried g.S.Source.left g.S.Source.lent_as g.S.Source.fault_plan g.L.LineReader.read_of c.args.batch c.args.self.now.alone (length c.args.self.now.lanes)
    c.args.place c.feed_lane.result c.args.hand.now c.feed_lane.new.hand (omega (arith, c.if-place-lanes.true, c.lane_count-lanes.ensures)) c.if-is_fed_alone.ensures
    (c.feed_lane.ensures.own.lanes ∙ sym c.requires.own.lanes) c.feed_lane.ensures.parts c.feed_lane.ensures.lanes
