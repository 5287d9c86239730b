use Rattle.std.proofs.Common.{◌≡◌, ◌≤◌, length}
use Rattle.eql_lexer.specs.Blanks.{gap}
use Rattle.eql_lexer.proofs.blank.after_gap.Given as goal

abbrev pub invariant-loop-rest : goal.invariant-loop-rest
invariant-loop-rest l = (gap l.rest ≡ gap l.text) × (length l.rest ≤ length l.text)

abbrev pub decreases-loop-rest : goal.decreases-loop-rest
decreases-loop-rest l = length l.rest
