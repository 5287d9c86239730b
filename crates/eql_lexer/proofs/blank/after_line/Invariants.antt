use Rattle.std.proofs.Common.{◌≡◌, ◌≤◌, length}
use Rattle.eql_lexer.specs.Blanks.{line_comment}
use Rattle.eql_lexer.proofs.blank.after_line.Given as goal

abbrev pub invariant-loop-rest : goal.invariant-loop-rest
invariant-loop-rest l = (line_comment l.rest ≡ line_comment l.text) × (length l.rest ≤ length l.text)

abbrev pub decreases-loop-rest : goal.decreases-loop-rest
decreases-loop-rest l = length l.rest
