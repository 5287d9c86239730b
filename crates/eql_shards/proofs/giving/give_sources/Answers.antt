use Rattle.eql_shards.specs.Giving.{return_of}
use Rattle.eql_shards.proofs.BackLemmas.{none_gone, one_gone, takes_one}
use Rattle.eql_shards.proofs.giving.give_sources.Goals as goal

pub back-init : goal.back-init
back-init g c = none_gone g.H.Shelf (return_of g.H.Src.Source.lent_as g.H.Src.Source.fault_count) _ _

pub back-preserved : goal.back-preserved
back-preserved g c =
    let source = c.take_last-source.result in
    let gave = c.give_source.ensures in
    one_gone g.H.Shelf (return_of g.H.Src.Source.lent_as g.H.Src.Source.fault_count) _ _ c.take_last-source.new.self.items source _ _ _
    c.take_last-source.ensures.items c.back.invariant
    (takes_one g.H.Shelf (return_of g.H.Src.Source.lent_as g.H.Src.Source.fault_count source) _ _
    gave.faults gave.faults_named gave.absences gave.returned gave.kept gave.plans_kept gave.disk_kept gave.numbered)
