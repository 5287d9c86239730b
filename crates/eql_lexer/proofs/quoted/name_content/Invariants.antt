use Rattle.std.proofs.Common.{length}
use Rattle.eql_lexer.proofs.Steps.{Gathers}
use Rattle.eql_lexer.proofs.quoted.name_content.Given as goal

abbrev pub invariant-loop-b : goal.invariant-loop-b
invariant-loop-b l = Gathers l.bytes l.out.items l.rest

abbrev pub decreases-loop-b : goal.decreases-loop-b
decreases-loop-b l = length l.rest
