use Rattle.std.proofs.Common.{arith}
use Rattle.eql_check.proofs.Ascending.{in_order}
use Rattle.eql_check.proofs.mapping.of_members.Goals as goal

pub invariant_of-result : goal.invariant_of-result
invariant_of-result c =
    in_order c.args.members.now.entries c.in_ok-names.names c.in_ok-names.ensures c.len.ensures.ordered (omega (arith, c.len.ensures.len, c.if-len-gt-MOST_NAMES.false))
