use Rattle.std.specs.Prelude.{◌≡◌, ℤ, List, map}
use Rattle.eql_values.specs.declared.found.Holder.{Holder}
use Rattle.eql_values.specs.declared.order.Mark.TheVariants.{At}
use Rattle.eql_values.specs.Ordered.{numbers}
use Rattle.eql_parts.specs.PartSteps.{Rules}
use Rattle.eql_conductor.specs.Benches.{Rests}
use Rattle.eql_conductor.specs.Going.{Went}
use Rattle.eql_conductor.specs.PartRounds.{AreAtRest}
use Rattle.eql_conductor.specs.RoundNotes.{PartsGrowTo}
use Rattle.eql_conductor.specs.Snaps.{held_of}
use Rattle.eql_conductor.proofs.snapping.snap_each.Given as goal

abbrev pub invariant-loop-p : goal.invariant-loop-p
invariant-loop-p g l = record {
  rests : Rests (g.B.Bench.known l.fn.bench) (g.B.Bench.known l.bench);
  held : (rules : Rules) (all : List Holder) (time : ℤ) → AreAtRest rules all (At time) (g.B.Bench.known l.fn.bench) → l.lists.items ≡ map (held_of rules all time) (numbers l.p);
  went : Went (g.B.Bench.known l.fn.bench) (g.B.Bench.known l.bench);
  noted : PartsGrowTo l.p (λ p. 0) 1 (g.B.Bench.known l.fn.bench) (g.B.Bench.known l.bench);
}
