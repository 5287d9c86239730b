use Rattle.std.proofs.Common.{[], ℤ, Option, sym, subst}
use Rattle.eql_lane.specs.Lanes.{fresh_cut}
use Rattle.eql_lane.specs.Starts.{Begins, BeginsAs}
use Rattle.eql_lane.specs.declared.make.LaneStart.{LaneStart}
use Rattle.eql_lane.proofs.Beginnings.{fresh_of}
use Rattle.eql_lane.proofs.lane.Lane.make.Goals as goal

pub returns-in-Fresh-clause-made : goal.returns-in-Fresh-clause-made
returns-in-Fresh-clause-made g c =
    subst (λ (b : LaneStart). BeginsAs g.S.Source.left g.S.Source.lent_as g.S.Source.fault_count c.args.source c.args.reader c.args.shard c.args.slack b c.begin.result) (sym c.in-Fresh.is)
    (subst (λ (slack : Option ℤ). Begins g.S.Source.left g.S.Source.lent_as g.S.Source.fault_count c.args.source c.args.reader c.args.shard slack fresh_cut [] c.begin.result) c.nanos-slack.ensures.nanos
    (fresh_of g.S.Source.left g.S.Source.lent_as g.S.Source.fault_count c.args.source c.args.reader c.args.shard c.nanos-slack.result c.new-kept.result c.nothing_found-found.result
    c.new-kept.ensures c.nothing_found-found.ensures.places c.nothing_found-found.ensures.digest c.begin.result c.begin.ensures.lane))
