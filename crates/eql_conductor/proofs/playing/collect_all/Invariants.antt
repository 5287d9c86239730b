use Rattle.std.specs.Prelude.{◌≡◌, List, map}
use Rattle.eql_values.specs.declared.found.Holder.{Holder}
use Rattle.eql_values.specs.Ordered.{numbers}
use Rattle.eql_parts.specs.PartSteps.{Rules}
use Rattle.eql_conductor.specs.Finding.{found_of}
use Rattle.eql_conductor.specs.Benches.{LanesRest, StaysSame}
use Rattle.eql_conductor.specs.Going.{Went}
use Rattle.eql_conductor.specs.PartRounds.{AreCollected}
use Rattle.eql_conductor.specs.RoundNotes.{PartsGrowTo}
use Rattle.eql_conductor.proofs.playing.collect_all.Given as goal

abbrev pub invariant-loop-p : goal.invariant-loop-p
invariant-loop-p g l = record {
  parts : (rules : Rules) (all : List Holder) → AreCollected rules all l.items l.mark 0 (g.B.Bench.known l.fn.bench) → AreCollected rules all l.items l.mark l.p (g.B.Bench.known l.bench);
  found : (rules : Rules) (all : List Holder) → AreCollected rules all l.items l.mark 0 (g.B.Bench.known l.fn.bench) → l.lists.items ≡ map (found_of rules all l.items) (numbers l.p);
  same : StaysSame (g.B.Bench.known l.fn.bench) (g.B.Bench.known l.bench);
  lanes : LanesRest (g.B.Bench.known l.fn.bench) (g.B.Bench.known l.bench);
  went : Went (g.B.Bench.known l.fn.bench) (g.B.Bench.known l.bench);
  noted : PartsGrowTo l.p (λ p. 0) 1 (g.B.Bench.known l.fn.bench) (g.B.Bench.known l.bench);
}
