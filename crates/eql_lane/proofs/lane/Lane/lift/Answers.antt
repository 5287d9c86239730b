use Rattle.std.proofs.Common.{◌≡◌, [], None, map, refl, sym, ap, ◌∙◌, subst}
use Rattle.eql_values.specs.declared.cut.LaneCut.{LaneCut}
use Rattle.eql_lane.specs.Judging.{KeptView, cut_with}
use Rattle.eql_lane.specs.Lanes.{beginning_lane}
use Rattle.eql_lane.specs.Noting.{placed_item, LinesAscend}
use Rattle.eql_lane.specs.Starts.{MayBegin}
use Rattle.eql_lane.specs.Views.{LaneView}
use Rattle.eql_lane.proofs.Beginnings.{lifts_of}
use Rattle.eql_lane.proofs.LiftLemmas.{placed_ascend, noted_cut, may_begin}
use Rattle.eql_lane.proofs.lane.Lane.lift.Goals as goal

pub placed-requires : goal.placed-requires
placed-requires g c =
    let finds = (c.in-Ok.ensures {u = tt}).finds.finds in
    subst LinesAscend (sym finds.located.places_are) (placed_ascend finds.first c.args.wanted c.requires.cut.ascend)

pub of-kept-requires-clause-cut : goal.of-kept-requires-clause-cut
of-kept-requires-clause-cut g c =
    let finds = (c.in-Ok.ensures {u = tt}).finds.finds in
    let same : ◌≡◌ {A = LaneCut} c.placed.result (record c.args.cut { items = map (placed_item finds.first) c.args.cut.items }) =
    c.placed.ensures ∙ noted_cut finds.first c.args.wanted c.in-Ok.found.places c.args.cut finds.located.places_are c.requires.cut.named in
    subst MayBegin (sym same) (may_begin finds.first c.args.cut c.args.wanted c.requires.cut)

pub returns-in-Ok-clause-made : goal.returns-in-Ok-clause-made
returns-in-Ok-clause-made g c =
    let sought = c.in-Ok.ensures {u = tt} in
    let finds = sought.finds.finds in
    let same : ◌≡◌ {A = LaneCut} c.placed.result (record c.args.cut { items = map (placed_item finds.first) c.args.cut.items }) =
    c.placed.ensures ∙ noted_cut finds.first c.args.wanted c.in-Ok.found.places c.args.cut finds.located.places_are c.requires.cut.named in
    lifts_of g.S.Source.left g.S.Source.lent_as g.S.Source.fault_count c.args.source c.seek.new.source c.args.reader c.args.shard c.args.slack c.args.cut c.args.wanted c.in-Ok.found
    (sought.passed refl) (sought.ended refl) (sought.steady (λ e. cc)) sought.finds c.placed.result same c.begin.result
    (c.begin.ensures.lane ∙ ap (λ (k : KeptView). let v : LaneView g.row.S.Denot g.row.L.Denot = record { source = c.seek.new.source; reader = c.args.reader; shard = c.args.shard; slack = k.slack; buffer = record { long = None; unread = []; digest = c.in-Ok.found.digest }; places = c.in-Ok.found.places; state = beginning_lane (cut_with c.in-Ok.found.digest k) (g.S.Source.fault_count c.seek.new.source) } in v) c.of-kept.ensures)
