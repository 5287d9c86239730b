use Rattle.std.proofs.Common.{length, ◌∙◌}
use Rattle.eql_operators.proofs.Lengths.{lengths_differ, not_same}
use Rattle.eql_operators.proofs.comparisons.are_equal.Goals as goal

pub returns-else-text : goal.returns-else-text
returns-else-text c =
    not_same (length c.text.result.now) (length c.text-2.result.now) c.if-text.false
    ∙ lengths_differ c.text.result.now c.text-2.result.now c.args.a.now c.args.b.now
    c.text.utf8 c.text-2.utf8 c.text.ensures c.text-2.ensures c.if-text.false
