use Rattle.std.proofs.Common.{◌∙◌}
use Rattle.std.specs.Ordering.{nat_cmp}
use Rattle.eql_values.specs.declared.found.Numbered.{Numbered}
use Rattle.eql_cut.proofs.Keyed.{ascends_keyed}
use Rattle.eql_cut.proofs.chains.do_numbers_ascend.Goals as goal

pub returns : goal.returns
returns c = c.ascends.ensures ∙ ascends_keyed (λ (n : Numbered). n.number) nat_cmp c.args.kept.now ∙ c.order_from_next.ensures.numbers c.args.kept.now
