use Rattle.eql_conductor.specs.Benches.{Rests}
use Rattle.eql_conductor.specs.Bounds.{FeedsTo}
use Rattle.eql_conductor.specs.Going.{Went}
use Rattle.std.specs.Prelude.{◌∷◌, []}
use Rattle.eql_conductor.specs.declared.note.Note.TheVariants.{Fed}
use Rattle.eql_conductor.specs.RoundNotes.{NotesLanesTo}
use Rattle.eql_conductor.proofs.feeding.feed_all.Given as goal

abbrev pub invariant-loop-s : goal.invariant-loop-s
invariant-loop-s g l = record {
  rests : Rests (g.B.Bench.known l.fn.bench) (g.B.Bench.known l.bench);
  went : Went (g.B.Bench.known l.fn.bench) (g.B.Bench.known l.bench);
  fed : FeedsTo l.s (g.B.Bench.known l.fn.bench) (g.B.Bench.known l.bench);
  noted : NotesLanesTo l.s (λ s. Fed l.batch ∷ []) (g.B.Bench.known l.fn.bench) (g.B.Bench.known l.bench);
}
