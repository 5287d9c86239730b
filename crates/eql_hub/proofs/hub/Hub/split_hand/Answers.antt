use Rattle.std.proofs.Common.{sym, subst}
use Rattle.eql_hub.specs.Hands.{Knows}
use Rattle.eql_hub.proofs.hub.Hub.split_hand.Goals as goal

pub returns-clause-knows : goal.returns-clause-knows
returns-clause-knows g c know =
    let was = subst (Knows g.S.Source.left g.S.Source.lent_as g.S.Source.fault_plan g.L.LineReader.read_of) (sym c.hand.view_is) know in
    let lanes = c.split-lanes.ensures.knows was.lanes in
    let parts = c.split-parts.ensures.knows was.parts in
    (record { lanes = lanes.0; parts = parts.0 }, record { lanes = lanes.1; parts = parts.1 })
