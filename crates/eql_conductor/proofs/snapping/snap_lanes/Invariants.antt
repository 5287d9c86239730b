use Rattle.std.specs.Prelude.{◌≡◌, ◌∷◌, [], ℕ, List, Option, length}
use Rattle.eql_values.specs.declared.order.Mark.{Mark}
use Rattle.eql_conductor.specs.Benches.{Rests}
use Rattle.eql_conductor.specs.Going.{Went}
use Rattle.eql_conductor.specs.LaneRounds.{LanesAreAt}
use Rattle.eql_conductor.specs.RoundNotes.{NotesLanesTo}
use Rattle.eql_conductor.specs.declared.note.Note.TheVariants.{Snapped}
use Rattle.eql_conductor.specs.Snaps.{SnapsFrom}
use Rattle.eql_conductor.proofs.snapping.snap_lanes.Given as goal

abbrev pub invariant-loop-s : goal.invariant-loop-s
invariant-loop-s g l = record {
  rests : Rests (g.B.Bench.known l.fn.bench) (g.B.Bench.known l.bench);
  snaps : (texts : Option (List (List ℕ))) (mark : Mark) → LanesAreAt texts mark (g.B.Bench.known l.fn.bench) → SnapsFrom texts mark (g.B.Bench.known l.fn.bench) 0 l.cuts.items;
  count : length l.cuts.items ≡ l.s;
  went : Went (g.B.Bench.known l.fn.bench) (g.B.Bench.known l.bench);
  noted : NotesLanesTo l.s (λ s. Snapped ∷ []) (g.B.Bench.known l.fn.bench) (g.B.Bench.known l.bench);
}
