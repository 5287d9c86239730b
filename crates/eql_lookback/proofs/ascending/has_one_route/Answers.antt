use Rattle.std.proofs.Common.{◌<◌, List, [], ◌∷◌, length, ap, arith, refl}
use Rattle.std.proofs.lemmas.Bool.Decides.{nat_tests}
use Rattle.eql_values.specs.declared.item.Route.{Route}
use Rattle.eql_values.specs.Routes.{RoutesAreInOrder}
use Rattle.eql_lookback.proofs.ascending.has_one_route.Goals as goal

few_in_order : (routes : List Route) → length routes < 2 → RoutesAreInOrder routes
few_in_order [] lt = refl
few_in_order (r ∷ []) lt = refl
few_in_order (r ∷ s ∷ rest) lt = absurd (omega arith)

pub returns : goal.returns
returns c = λ h.
    let few : c.len.result < 2 = grind (arith, nat_tests, h) in
    few_in_order c.args.event.now.routes (omega (arith, few, ap length c.items.ensures))
