use Rattle.eql_conductor.proofs.Snapped.{snap_is, snap_rests}
use Rattle.eql_conductor.proofs.snapping.snap_lane.Goals as goal

pub returns-in-Ok-Cut-clause-rests : goal.returns-in-Ok-Cut-clause-rests
returns-in-Ok-Cut-clause-rests g c =
    snap_rests c.args.s c.in-Ok-Cut.field-0 (g.B.Bench.known c.args.bench.now) (g.B.Bench.known c.lane.new.self) c.in-Ok-Cut.ensures.played

pub returns-in-Ok-Memory-clause-rests : goal.returns-in-Ok-Memory-clause-rests
returns-in-Ok-Memory-clause-rests g c =
    snap_rests c.args.s c.in-Ok-Memory.field-0 (g.B.Bench.known c.args.bench.now) (g.B.Bench.known c.lane.new.self) c.in-Ok-Memory.ensures.played

pub returns-in-Ok-Cut-clause-snap : goal.returns-in-Ok-Cut-clause-snap
returns-in-Ok-Cut-clause-snap g c =
    λ texts mark at. snap_is c.args.s c.in-Ok-Cut.cut (g.B.Bench.known c.args.bench.now) (g.B.Bench.known c.lane.new.self) texts mark c.requires.place
    (rw c.in-Ok-Cut.field-0-is at c.in-Ok-Cut.ensures.played) at
