use Rattle.std.proofs.Common.{◌≡◌, ◌+◌, ◌++◌, ◌∷◌, [], List, take, sym, ap, ◌∙◌, subst}
use Rattle.std.specs.Prelude.{All}
use Rattle.std.proofs.lemmas.List.{take_more}
use Rattle.std.proofs.lemmas.List.Elements.{All-push}
use Rattle.eql_values.specs.declared.item.Route.{Route}
use Rattle.eql_part.specs.Rooms.{entries_of}
use Rattle.eql_part.specs.KeyTables.{IsIdle}
use Rattle.eql_part.proofs.routes.are_idle.Goals as goal

pub loop-route-preserved : goal.loop-route-preserved
loop-route-preserved g c =
    let routes = c.args.routes.now.items in let i = c.loop-route.route-index in let route = c.route-item.result in
    let read = c.deref-route-items.result.now in let same : read ≡ routes = c.deref-route-items.ensures.value in
    let idle = λ (r : Route). IsIdle (entries_of c.args.machines.now) r in
    let more : take (i + 1) routes ≡ take i routes ++ route ∷ [] =
    sym (ap (take (i + 1)) same) ∙ take_more read i route c.loop-route-test.true ∙ ap (λ (r : Route). take i read ++ r ∷ []) (sym c.route-item.is) ∙ ap (λ (l : List Route). take i l ++ route ∷ []) same in
    subst (All idle) (sym more) (All-push idle (take i routes) route c.loop-route.invariant (c.is_idle.ensures c.if-not-is_idle.false))
