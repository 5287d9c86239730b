use Rattle.std.specs.Prelude.{List}
use Rattle.eql_values.specs.declared.found.Holder.{Holder}
use Rattle.eql_parts.specs.PartSteps.{Rules}
use Rattle.eql_conductor.specs.Benches.{LanesRest, StaysSame}
use Rattle.eql_conductor.specs.Going.{Went}
use Rattle.eql_conductor.specs.PartRounds.{ArePlayed}
use Rattle.eql_conductor.specs.RoundNotes.{PartsGrowTo, delivered_to}
use Rattle.eql_conductor.proofs.playing.turn_all.Given as goal

abbrev pub invariant-loop-p : goal.invariant-loop-p
invariant-loop-p g l = record {
  parts : (rules : Rules) (all : List Holder) → ArePlayed rules all l.items l.mark 0 (g.B.Bench.known l.fn.bench) → ArePlayed rules all l.items l.mark l.p (g.B.Bench.known l.bench);
  same : StaysSame (g.B.Bench.known l.fn.bench) (g.B.Bench.known l.bench);
  lanes : LanesRest (g.B.Bench.known l.fn.bench) (g.B.Bench.known l.bench);
  went : Went (g.B.Bench.known l.fn.bench) (g.B.Bench.known l.bench);
  noted : PartsGrowTo l.p (delivered_to l.items) 1 (g.B.Bench.known l.fn.bench) (g.B.Bench.known l.bench);
}
