use Rattle.eql_conductor.proofs.Onward.{lane_goes}
use Rattle.eql_lane.specs.declared.ops.LaneOp.TheVariants.{Take}
use Rattle.eql_lane.specs.declared.ops.LaneReply.TheVariants.{Taken}
use Rattle.eql_conductor.proofs.Takes.{take_hands, take_more}
use Rattle.eql_conductor.proofs.BoundsRounds.{one_gave_out}
use Rattle.eql_conductor.proofs.Handing.{lacked_hands}
use Rattle.eql_conductor.proofs.taking.take_one.Goals as goal

pub returns-in-Ok-Taken-clause-hands : goal.returns-in-Ok-Taken-clause-hands
returns-in-Ok-Taken-clause-hands g c =
    λ texts was. take_hands c.args.s c.args.last c.args.mark c.in-Ok-Taken.items (g.B.Bench.known c.args.bench.now) (g.B.Bench.known c.lane.new.self) texts
    (rw c.in-Ok-Taken.field-0-is at c.in-Ok-Taken.ensures.played) c.requires.place c.requires.safe c.requires.later was

pub returns-in-Ok-Taken-clause-lanes : goal.returns-in-Ok-Taken-clause-lanes
returns-in-Ok-Taken-clause-lanes g c =
    λ texts was. take_more c.args.s c.args.last c.args.mark c.in-Ok-Taken.items (g.B.Bench.known c.args.bench.now) (g.B.Bench.known c.lane.new.self) texts
    (rw c.in-Ok-Taken.field-0-is at c.in-Ok-Taken.ensures.played) c.requires.place c.requires.safe c.requires.later was

pub returns-in-Ok-Taken-clause-goes : goal.returns-in-Ok-Taken-clause-goes
returns-in-Ok-Taken-clause-goes g c =
    lane_goes c.args.s (Take c.args.mark) (Taken c.in-Ok-Taken.items) (g.B.Bench.known c.args.bench.now) (g.B.Bench.known c.lane.new.self)
    (rw c.in-Ok-Taken.field-0-is at c.in-Ok-Taken.ensures.played)

pub returns-in-Ok-Memory-clause-goes : goal.returns-in-Ok-Memory-clause-goes
returns-in-Ok-Memory-clause-goes g c =
    lane_goes c.args.s (Take c.args.mark) c.in-Ok-Memory.field-0 (g.B.Bench.known c.args.bench.now) (g.B.Bench.known c.lane.new.self) c.in-Ok-Memory.ensures.played

pub returns-in-Ok-Taken-clause-gave : goal.returns-in-Ok-Taken-clause-gave
returns-in-Ok-Taken-clause-gave g c =
    one_gave_out c.args.s c.args.mark c.in-Ok-Taken.items (g.B.Bench.known c.args.bench.now) (g.B.Bench.known c.lane.new.self) (rw c.in-Ok-Taken.field-0-is at c.in-Ok-Taken.ensures.played)

pub returns-in-Ok-Memory-clause-none_handed : goal.returns-in-Ok-Memory-clause-none_handed
returns-in-Ok-Memory-clause-none_handed g c =
    lacked_hands c.args.s c.in-Ok-Memory.field-0-0 c.args.mark (g.B.Bench.known c.args.bench.now) (g.B.Bench.known c.lane.new.self)
    (rw c.in-Ok-Memory.field-0-is at c.in-Ok-Memory.ensures.played)
