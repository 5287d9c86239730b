use Rattle.std.proofs.Common.{◌∙◌}
use Rattle.std.specs.Ordering.{nat_cmp}
use Rattle.std.proofs.lemmas.Cmp.{nat_cmp_total}
use Rattle.eql_values.specs.Adjacent.{by_key, by_order, by_itself, by_slot, by_number}
use Rattle.eql_values.specs.Matching.{slot_cmp}
use Rattle.eql_values.specs.OrderKeys.{order_cmp}
use Rattle.eql_values.specs.Orders.{text_cmp, key_cmp}
use Rattle.eql_values.specs.Totals.{text_cmp_total, key_cmp_total, slot_cmp_total, order_cmp_total}
use Rattle.eql_values.proofs.Adjacent.{ascends_next_is, events_are}
use Rattle.eql_values.proofs.laws.order_from_next.Goals as goal

pub returns-clause-routes : goal.returns-clause-routes
returns-clause-routes c routes = ascends_next_is key_cmp key_cmp_total (by_key routes)

pub returns-clause-items : goal.returns-clause-items
returns-clause-items c items = ascends_next_is order_cmp order_cmp_total (by_order items)

pub returns-clause-chains : goal.returns-clause-chains
returns-clause-chains c events = ascends_next_is order_cmp order_cmp_total (by_itself events) ∙ events_are events

pub returns-clause-holders : goal.returns-clause-holders
returns-clause-holders c holders = ascends_next_is slot_cmp slot_cmp_total (by_slot holders)

pub returns-clause-names : goal.returns-clause-names
returns-clause-names c names = ascends_next_is text_cmp text_cmp_total names

pub returns-clause-numbers : goal.returns-clause-numbers
returns-clause-numbers c kept = ascends_next_is nat_cmp nat_cmp_total (by_number kept)
