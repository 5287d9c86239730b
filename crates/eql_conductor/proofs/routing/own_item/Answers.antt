use Rattle.std.proofs.Common.{List, sym, ap, ◌∙◌, subst}
use Rattle.std.specs.Prelude.{filter}
use Rattle.eql_values.specs.declared.item.Route.{Route}
use Rattle.eql_values.specs.Routes.{RoutesStand}
use Rattle.eql_conductor.proofs.Owned.{of_part, routes_of_part}
use Rattle.eql_conductor.proofs.routing.own_item.Goals as goal

pub of-requires : goal.of-requires
of-requires c = record {
  stand = subst RoutesStand (sym (c.in_ok-own.ensures ∙ ap (λ (routes : List Route). filter (of_part c.args.p) routes) c.items.ensures))
      (routes_of_part c.args.p c.args.item.now.routes c.stand.ensures);
}
