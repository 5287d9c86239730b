use Rattle.eql_shards.specs.Giving.{lane_returned, return_of}
use Rattle.eql_shards.proofs.BackLemmas.{none_gone, one_gone, takes_lane, takes_one}
use Rattle.eql_shards.proofs.giving.give_lanes.Goals as goal

pub back-init : goal.back-init
back-init g c = none_gone g.H.Shelf (lane_returned g.H.Src.Source.lent_as) _ _

pub back-preserved : goal.back-preserved
back-preserved g c =
    let lane = c.take_last-lane.result in
    let source = c.into_source.result in
    let gave = c.give_source.ensures in
    one_gone g.H.Shelf (lane_returned g.H.Src.Source.lent_as) _ _ c.take_last-lane.new.self.items lane _ _ _
    c.take_last-lane.ensures.items c.back.invariant
    (takes_lane g.H.Shelf g.H.Src.Source.lent_as g.H.Src.Source.fault_count source lane _ _ c.into_source.ensures.source c.into_source.ensures.faults
    (takes_one g.H.Shelf (return_of g.H.Src.Source.lent_as g.H.Src.Source.fault_count source) _ _
    gave.faults gave.faults_named gave.absences gave.returned gave.kept gave.plans_kept gave.disk_kept gave.numbered))
