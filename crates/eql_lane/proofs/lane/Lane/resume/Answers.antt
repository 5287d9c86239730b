use Rattle.std.proofs.Common.{◌≡◌, [], None, refl, sym, ap, ◌∙◌, subst}
use Rattle.std.specs.Prelude.{IfSome}
use Rattle.eql_digest.specs.declared.digest.Digest.{Digest}
use Rattle.eql_lane.specs.Judging.{KeptView, cut_with}
use Rattle.eql_lane.specs.Lanes.{beginning_lane}
use Rattle.eql_lane.specs.Views.{LaneView}
use Rattle.eql_lane.proofs.Beginnings.{retraces_of}
use Rattle.eql_lane.proofs.lane.Lane.resume.Goals as goal

pub returns-in-Ok-clause-made : goal.returns-in-Ok-clause-made
returns-in-Ok-clause-made g c =
    let sought = c.in-Ok.ensures {u = tt} in
    retraces_of g.S.Source.left g.S.Source.lent_as g.S.Source.fault_count c.args.source c.seek.new.source c.args.reader c.args.shard c.args.slack c.args.cut c.of-wanted.result c.in-Ok.found
    (sought.passed refl) (sought.ended refl) (sought.steady (λ e. cc)) sought.finds (c.of-wanted.ensures ∙ c.new.ensures.items) c.begin.result
    (c.begin.ensures.lane ∙ ap (λ (k : KeptView). let v : LaneView g.row.S.Denot g.row.L.Denot = record { source = c.seek.new.source; reader = c.args.reader; shard = c.args.shard; slack = k.slack; buffer = record { long = None; unread = []; digest = c.in-Ok.found.digest }; places = c.in-Ok.found.places; state = beginning_lane (cut_with c.in-Ok.found.digest k) (g.S.Source.fault_count c.seek.new.source) } in v) c.of-kept.ensures)

pub returns-in-Ok-clause-known : goal.returns-in-Ok-clause-known
returns-in-Ok-clause-known g c =
    subst (λ (d : Digest). IfSome c.args.known (λ own. own ≡ d)) (sym (ap (λ (v : LaneView g.row.S.Denot g.row.L.Denot). v.state.cut.digest) c.begin.ensures.lane)) (c.in-Ok.ensures {u = tt}).known
