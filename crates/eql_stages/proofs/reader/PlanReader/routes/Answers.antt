use Rattle.std.proofs.Common.{sym, subst, ◌∙◌}
use Rattle.eql_values.specs.Routes.{RoutesStand}
use Rattle.eql_stages.specs.Matching.{given_by, until_by}
use Rattle.eql_stages.specs.Standing.{routes_stand}
use Rattle.eql_stages.proofs.reader.PlanReader.routes.Goals as goal

pub of-requires : goal.of-requires
of-requires c =
    let categories = c.args.event.now.categories in
    let slots = c.args.event.now.slots in
    record {
      stand = subst RoutesStand (sym ((c.in_ok-own.ensures {u = tt}) ∙ c.in_ok-say.ensures.said))
          (routes_stand (given_by categories slots c.self.inside.matchers.items.items) (until_by categories slots c.self.inside.matchers.until));
    }
