use Rattle.std.proofs.Common.{◌∙◌}
use Rattle.eql_values.specs.declared.item.Item.{Item}
use Rattle.eql_values.specs.OrderKeys.{order_cmp}
use Rattle.eql_cut.proofs.Keyed.{ascends_keyed}
use Rattle.eql_cut.proofs.routes.do_items_ascend.Goals as goal

pub returns : goal.returns
returns c = c.ascends.ensures ∙ ascends_keyed (λ (i : Item). i.order) order_cmp c.args.items.now ∙ c.order_from_next.ensures.items c.args.items.now
