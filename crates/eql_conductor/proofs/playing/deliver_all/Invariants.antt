use Rattle.std.specs.Prelude.{◌≡◌, ◌+◌, List, drop, map}
use Rattle.std.specs.Vec.Iter.{into_iter_items, into_iter_len}
use Rattle.eql_values.specs.declared.found.Holder.{Holder}
use Rattle.eql_values.specs.Ordered.{numbers}
use Rattle.eql_values.specs.Routing.{routed_items}
use Rattle.eql_parts.specs.PartSteps.{Rules}
use Rattle.eql_parts.specs.Spreading.{part_number}
use Rattle.eql_conductor.specs.Benches.{LanesRest, StaysSame}
use Rattle.eql_conductor.specs.Going.{Went}
use Rattle.eql_conductor.specs.PartRounds.{AreDelivered, AreAtRest}
use Rattle.eql_conductor.specs.RoundNotes.{PartsGrowTo}
use Rattle.eql_conductor.proofs.playing.deliver_all.Given as goal

abbrev pub invariant-loop-p : goal.invariant-loop-p
invariant-loop-p g l = record {
  left : into_iter_items l.lists ≡ drop l.p (map (λ p. routed_items part_number p l.items) (numbers 16));
  count : into_iter_len l.lists + l.p ≡ 16;
  parts : (rules : Rules) (all : List Holder) → AreAtRest rules all l.last (g.B.Bench.known l.fn.bench) → AreDelivered rules all l.items l.last l.mark l.p (g.B.Bench.known l.bench);
  same : StaysSame (g.B.Bench.known l.fn.bench) (g.B.Bench.known l.bench);
  lanes : LanesRest (g.B.Bench.known l.fn.bench) (g.B.Bench.known l.bench);
  went : Went (g.B.Bench.known l.fn.bench) (g.B.Bench.known l.bench);
  noted : PartsGrowTo l.p (λ p. 0) 1 (g.B.Bench.known l.fn.bench) (g.B.Bench.known l.bench);
}
