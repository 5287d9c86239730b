use Rattle.std.proofs.Common.{arith}
use Rattle.eql_lines.proofs.Adding.{all_emptied}
use Rattle.eql_lines.proofs.read.clear.Goals as goal

pub returns-clause-nothing : goal.returns-clause-nothing
returns-clause-nothing c = all_emptied c.loop-i.slots.items (λ k h. c.loop-i.invariant.1 k (grind (arith, h)))
