use Rattle.eql_conductor.proofs.Snapped.{snap_holds, snap_part_rests}
use Rattle.eql_conductor.proofs.snapping.snap_part.Goals as goal

pub returns-in-Ok-Cut-clause-rests : goal.returns-in-Ok-Cut-clause-rests
returns-in-Ok-Cut-clause-rests g c =
    snap_part_rests c.args.p c.in-Ok-Cut.field-0 (g.B.Bench.known c.args.bench.now) (g.B.Bench.known c.part.new.self) c.in-Ok-Cut.ensures.played

pub returns-in-Ok-Memory-clause-rests : goal.returns-in-Ok-Memory-clause-rests
returns-in-Ok-Memory-clause-rests g c =
    snap_part_rests c.args.p c.in-Ok-Memory.field-0 (g.B.Bench.known c.args.bench.now) (g.B.Bench.known c.part.new.self) c.in-Ok-Memory.ensures.played

pub returns-in-Ok-Cut-clause-held : goal.returns-in-Ok-Cut-clause-held
returns-in-Ok-Cut-clause-held g c =
    λ rules all time rest. snap_holds rules all time c.args.p c.in-Ok-Cut.held (g.B.Bench.known c.args.bench.now) (g.B.Bench.known c.part.new.self) c.requires.place
    (rw c.in-Ok-Cut.field-0-is at c.in-Ok-Cut.ensures.played) rest
