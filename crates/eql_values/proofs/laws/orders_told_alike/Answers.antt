use Rattle.eql_values.proofs.Adjacent.{events_are, items_sorted, routes_in_order, items_ascend}
use Rattle.eql_values.proofs.laws.orders_told_alike.Goals as goal

pub returns-clause-chains : goal.returns-clause-chains
returns-clause-chains c = events_are

pub returns-clause-items : goal.returns-clause-items
returns-clause-items c = items_sorted

pub returns-clause-routes : goal.returns-clause-routes
returns-clause-routes c = routes_in_order

pub returns-clause-back : goal.returns-clause-back
returns-clause-back c = items_ascend
