use Rattle.std.proofs.Common.{◌∙◌}
use Rattle.eql_values.specs.declared.found.Holder.{Holder}
use Rattle.eql_values.specs.Matching.{slot_cmp}
use Rattle.eql_cut.proofs.Keyed.{ascends_keyed}
use Rattle.eql_cut.proofs.chains.do_holders_ascend.Goals as goal

pub returns : goal.returns
returns c = c.ascends.ensures ∙ ascends_keyed (λ (h : Holder). (h.key, h.stage)) slot_cmp c.args.holders.now ∙ c.order_from_next.ensures.holders c.args.holders.now
