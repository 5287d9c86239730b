use Rattle.std.specs.Prelude.{◌^◌}
use Rattle.eql_hub.specs.Hands.{IsHandOf, Knows}
use Rattle.eql_hands.proofs.Running.{Going}
use Rattle.eql_hands.proofs.run.play_steps.Given as goal

abbrev pub invariant-loop-step : goal.invariant-loop-step
invariant-loop-step g l =
    record {
      own : IsHandOf l.hub l.hand;
      knows : Knows g.S.Source.left g.S.Source.lent_as g.S.Source.fault_plan g.L.LineReader.read_of l.initial.hand
          → Knows g.S.Source.left g.S.Source.lent_as g.S.Source.fault_plan g.L.LineReader.read_of l.hand;
      going : Going g.S.Source.left g.S.Source.lent_as g.S.Source.fault_plan g.L.LineReader.read_of l.batch l.hub.alone (2 ^ 40) l._step l.initial.hand l.hand;
    }
