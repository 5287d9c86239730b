use Rattle.std.proofs.Common.{sym, subst}
use Rattle.eql_hub.specs.Hands.{HandView}
use Rattle.eql_hub.specs.Steps.{AddsAtMostOneEach}
use Rattle.eql_hub.proofs.Growing.{steps_more}
use Rattle.eql_hub.proofs.hub.Hub.hand_step.Goals as goal

pub returns-in-Some-clause-mine : goal.returns-in-Some-clause-mine
returns-in-Some-clause-mine g c =
    subst (λ (h : HandView _ _). AddsAtMostOneEach c.args.hand.now h) (sym c.hand-2.view_is)
    (steps_more g.S.Source.left g.S.Source.lent_as g.S.Source.fault_plan g.L.LineReader.read_of c.args.batch c.args.self.now.alone c.in-Some.did c.args.hand.now c.go_round.new.hand c.in-Some.ensures.steps)
