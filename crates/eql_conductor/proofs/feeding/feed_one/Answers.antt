use Rattle.eql_conductor.proofs.Looks.{failed_stops}
use Rattle.eql_conductor.proofs.BoundsRounds.{closed_was_fed, held_was_fed, lines_was_fed}
use Rattle.eql_conductor.proofs.feeding.feed_one.Goals as goal

pub returns-in-Ok-Failed-clause-stops : goal.returns-in-Ok-Failed-clause-stops
returns-in-Ok-Failed-clause-stops g c =
    failed_stops c.args.s c.args.batch _ (g.B.Bench.known c.args.bench.now) (g.B.Bench.known c.lane.new.self) c.requires.place
    (rw c.in-Ok-Failed.field-0-is at c.in-Ok-Failed.ensures.played)

pub returns-in-Ok-Fed-clause-fed : goal.returns-in-Ok-Fed-clause-fed
returns-in-Ok-Fed-clause-fed g c = lines_was_fed c.args.s c.args.batch _ (g.B.Bench.known c.args.bench.now) (g.B.Bench.known c.lane.new.self) (rw c.in-Ok-Fed.field-0-is at c.in-Ok-Fed.ensures.played)

pub returns-in-Ok-Held-clause-fed : goal.returns-in-Ok-Held-clause-fed
returns-in-Ok-Held-clause-fed g c = held_was_fed c.args.s c.args.batch _ (g.B.Bench.known c.args.bench.now) (g.B.Bench.known c.lane.new.self) (rw c.in-Ok-Held.field-0-is at c.in-Ok-Held.ensures.played)

pub returns-in-Ok-Closed-clause-fed : goal.returns-in-Ok-Closed-clause-fed
returns-in-Ok-Closed-clause-fed g c = closed_was_fed c.args.s c.args.batch (g.B.Bench.known c.args.bench.now) (g.B.Bench.known c.lane.new.self) (rw c.in-Ok-Closed.field-0-is at c.in-Ok-Closed.ensures.played)
