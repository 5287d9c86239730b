use Rattle.std.specs.Prelude.{◌≡◌, ◌∷◌, [], ℕ, List, Option, length}
use Rattle.eql_conductor.specs.Benches.{PartsRest}
use Rattle.eql_conductor.specs.Bounds.{GaveOutTo}
use Rattle.eql_conductor.specs.Going.{LanesGo, Went}
use Rattle.eql_conductor.specs.LaneRounds.{LanesAreAt, TookTo}
use Rattle.eql_conductor.specs.Handed.{LanesHand, sizes}
use Rattle.eql_conductor.specs.declared.note.Note.TheVariants.{Took}
use Rattle.eql_conductor.specs.RoundNotes.{NotesLanesTo}
use Rattle.eql_conductor.proofs.taking.take_all.Given as goal

abbrev pub invariant-loop-s : goal.invariant-loop-s
invariant-loop-s g l = record {
  took : (texts : Option (List (List ℕ))) → LanesAreAt texts l.last (g.B.Bench.known l.fn.bench)
      → TookTo texts l.s l.last l.mark (g.B.Bench.known l.fn.bench) (g.B.Bench.known l.bench) l.lists.items;
  count : length l.lists.items ≡ l.s;
  goes : LanesGo (g.B.Bench.known l.fn.bench) (g.B.Bench.known l.bench);
  parts : PartsRest (g.B.Bench.known l.fn.bench) (g.B.Bench.known l.bench);
  went : Went (g.B.Bench.known l.fn.bench) (g.B.Bench.known l.bench);
  gave : GaveOutTo l.s l.mark (g.B.Bench.known l.fn.bench) (g.B.Bench.known l.bench);
  handed : LanesHand (sizes l.lists.items) (g.B.Bench.known l.fn.bench) (g.B.Bench.known l.bench);
  noted : NotesLanesTo l.s (λ s. Took l.mark ∷ []) (g.B.Bench.known l.fn.bench) (g.B.Bench.known l.bench);
}
