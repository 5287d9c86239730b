use Rattle.std.proofs.Common.{length}
use Rattle.eql_lexer.proofs.Steps.{Completes}
use Rattle.eql_lexer.proofs.quoted.line_content.Given as goal

abbrev pub invariant-loop-b : goal.invariant-loop-b
invariant-loop-b l = Completes l.bytes l.out.items l.rest

abbrev pub decreases-loop-b : goal.decreases-loop-b
decreases-loop-b l = length l.rest
