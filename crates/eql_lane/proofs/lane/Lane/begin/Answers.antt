use Rattle.eql_lane.proofs.Stepping.{begun_lane}
use Rattle.eql_lane.proofs.lane.Lane.begin.Goals as goal

pub invariant_of-result : goal.invariant_of-result
invariant_of-result g c = begun_lane (g.S.Source.left c.args.source) c.new.result c.args.found.digest c.args.kept c.offset.result c.new.ensures c.offset.ensures
    c.requires.lines c.requires.bytes c.requires.ended c.ordered.ensures
