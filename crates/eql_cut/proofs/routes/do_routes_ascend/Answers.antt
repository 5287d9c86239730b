use Rattle.std.proofs.Common.{◌∙◌}
use Rattle.eql_values.specs.declared.item.Route.{Route}
use Rattle.eql_values.specs.Orders.{key_cmp}
use Rattle.eql_cut.proofs.Keyed.{ascends_keyed}
use Rattle.eql_cut.proofs.routes.do_routes_ascend.Goals as goal

pub returns : goal.returns
returns c = c.ascends.ensures ∙ ascends_keyed (λ (r : Route). r.key) key_cmp c.args.routes.now ∙ c.order_from_next.ensures.routes c.args.routes.now
