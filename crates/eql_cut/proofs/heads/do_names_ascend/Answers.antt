use Rattle.std.proofs.Common.{◌∙◌}
use Rattle.eql_values.specs.Orders.{text_cmp}
use Rattle.eql_cut.proofs.Keyed.{ascends_paired}
use Rattle.eql_cut.proofs.heads.do_names_ascend.Goals as goal

pub returns : goal.returns
returns c = c.ascends.ensures ∙ ascends_paired text_cmp c.args.names.now ∙ c.order_from_next.ensures.names c.args.names.now
