use Rattle.std.proofs.Common.{length}
use Rattle.eql_hub.specs.Hands.{IsHandOf}
use Rattle.eql_hub.specs.Sweeps.{PassesPlaces}
use Rattle.eql_hub.proofs.hub.Hub.sweep.Given as goal

abbrev pub invariant-loop-place : goal.invariant-loop-place
invariant-loop-place g l =
    IsHandOf l.self l.hand
    × PassesPlaces g.S.Source.left g.S.Source.lent_as g.S.Source.fault_plan g.L.LineReader.read_of l.batch l.self.alone (length l.self.lanes) l.from l.place l.initial.hand l.hand
