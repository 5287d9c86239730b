use Rattle.std.proofs.Common.{◌≡◌, ◌^◌, Some, refl, sym, ap, ◌∙◌, subst}
use Rattle.std.proofs.lemmas.Option.{same_Some}
use Rattle.eql_hub_run.specs.Workers.{HasNone, IsWhole, WorkerView}
use Rattle.eql_hub_run.proofs.Hands.{hand_played}
use Rattle.eql_hub_run.proofs.workers.play.Goals as goal

pub returns : goal.returns
returns g c =
    let began = c.requires.start in
    let has : c.args.worker.now.hand ≡ Some c.in-Some.hand = sym (ap (λ (w : WorkerView _ _). w.hand) c.worker.view_is) ∙ sym c.in-Some.ensures.value in
    let same = same_Some began.0 c.in-Some.hand (sym began.1 ∙ has) in
    let played =
    hand_played g.S.Source.left g.S.Source.lent_as g.S.Source.fault_plan g.L.LineReader.read_of c.args.batch c.args.hub.now.alone (2 ^ 40) c.args.hub.now
    c.run_hand-hand.result.1 c.in-Some.hand c.run_hand-hand.result.0 (subst (IsWhole c.args.hub.now) same began.2) (subst HasNone same began.3)
    c.run_hand-hand.ensures.own c.run_hand-hand.ensures.ran c.run_hand-hand.ensures.same c.run_hand-hand.ensures.fault c.run_hand-hand.ensures.bound in
    (c.run_hand-hand.result.0, refl, played.0, played.1)
