use Rattle.eql_conductor.specs.Benches.{Rests}
use Rattle.eql_conductor.specs.Bounds.{IsSomeLow}
use Rattle.eql_conductor.specs.Going.{Went}
use Rattle.eql_conductor.specs.LaneRounds.{AreSafeTo}
use Rattle.eql_conductor.specs.RoundNotes.{NotesLooksTo}
use Rattle.eql_conductor.proofs.feeding.look_all.Given as goal

abbrev pub invariant-loop-s : goal.invariant-loop-s
invariant-loop-s g l = record {
  rests : Rests (g.B.Bench.known l.fn.bench) (g.B.Bench.known l.bench);
  safe : AreSafeTo l.s l.mark (g.B.Bench.known l.bench);
  went : Went (g.B.Bench.known l.fn.bench) (g.B.Bench.known l.bench);
  low : IsSomeLow l.mark (g.B.Bench.known l.fn.bench) (g.B.Bench.known l.bench);
  looked : NotesLooksTo l.s l.mark (g.B.Bench.known l.fn.bench) (g.B.Bench.known l.bench);
}
