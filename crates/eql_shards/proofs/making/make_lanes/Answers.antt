use Rattle.std.proofs.Common.{inl, refl}
use Rattle.eql_shards.proofs.BackLemmas.{none_failed}
use Rattle.eql_shards.proofs.MakingLemmas.{making_stopped, making_long, lent_back, back_again}
use Rattle.eql_shards.proofs.making.make_lanes.Goals as goal

pub returns-in-Err-clause-stopped : goal.returns-in-Err-clause-stopped
returns-in-Err-clause-stopped g c =
    let same = c.give_sources.ensures.back.came.none (none_failed g.H.Src.Source.lent_as g.H.Src.Source.fault_count c.args.sources.items c.requires.fresh) in
    inl (refl, same.0, same.1)

pub returns-in-Err-filled-clause-stopped : goal.returns-in-Err-filled-clause-stopped
returns-in-Err-filled-clause-stopped g c =
    making_stopped g.H.Src.Source.left g.H.Src.Source.lent_as g.H.Src.Source.fault_count g.H.Src.Source.fault_plan g.F.Reader.LineReader.read_of _ _
    (record { earlier = c.faults_are_counted_by_name.ensures.earlier; later = c.faults_are_counted_by_name.ensures.later })
    c.in-Err-filled.stop.why c.in-Err-filled.stop.shard c.args.sources.items _ _ _ _ _ _ _ _ _ _ _ _
    (back_again c.args.sources.items _ c.turn_round.ensures) c.requires.fresh
    c.in-Err-filled.ensures.stopped c.give_sources-2.ensures.back.came c.give_lanes.ensures.back.came

pub returns-in-Err-filled-clause-lent : goal.returns-in-Err-filled-clause-lent
returns-in-Err-filled-clause-lent g c =
    let long = making_long g.H.Src.Source.left g.H.Src.Source.lent_as g.H.Src.Source.fault_count g.H.Src.Source.fault_plan g.F.Reader.LineReader.read_of _ _
    c.in-Err-filled.stop.why c.in-Err-filled.stop.shard c.args.sources.items _ _ c.fill_lanes-filled.new.sources.items _ _ _ _ _ _
    (back_again c.args.sources.items _ c.turn_round.ensures) refl
    c.in-Err-filled.ensures.stopped in
    lent_back _ _ _ _ _ _ _ long c.in-Err-filled.ensures.lent c.give_sources-2.ensures.back.lent c.give_lanes.ensures.back.lent
