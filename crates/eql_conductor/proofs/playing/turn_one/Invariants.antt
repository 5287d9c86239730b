use Rattle.std.specs.Prelude.{List}
use Rattle.eql_values.specs.declared.found.Holder.{Holder}
use Rattle.eql_parts.specs.PartSteps.{Rules}
use Rattle.eql_conductor.specs.Benches.{LanesRest, StaysSame}
use Rattle.eql_conductor.specs.Going.{Went}
use Rattle.eql_conductor.specs.PartRounds.{ArePlayed, WaitAtMost}
use Rattle.eql_conductor.specs.RoundNotes.{TurnsSome, delivered_to}
use Rattle.eql_conductor.proofs.playing.turn_one.Given as goal

abbrev pub decreases-loop-less : goal.decreases-loop-less
decreases-loop-less g l = l.left

abbrev pub invariant-loop-less : goal.invariant-loop-less
invariant-loop-less g l = record {
  few : WaitAtMost l.p l.left (g.B.Bench.known l.bench);
  parts : (rules : Rules) (all : List Holder) → ArePlayed rules all l.items l.mark l.p (g.B.Bench.known l.fn.bench) → ArePlayed rules all l.items l.mark l.p (g.B.Bench.known l.bench);
  same : StaysSame (g.B.Bench.known l.fn.bench) (g.B.Bench.known l.bench);
  lanes : LanesRest (g.B.Bench.known l.fn.bench) (g.B.Bench.known l.bench);
  went : Went (g.B.Bench.known l.fn.bench) (g.B.Bench.known l.bench);
  turned : TurnsSome (delivered_to l.items l.p) l.p (g.B.Bench.known l.fn.bench) (g.B.Bench.known l.bench);
}
