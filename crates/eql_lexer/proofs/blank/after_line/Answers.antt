use Rattle.std.proofs.lemmas.Grind.{common_steps}
use Rattle.std.proofs.Common.{arith}
use Rattle.eql_lexer.proofs.blank.after_line.Goals as goal

pub returns-then-b-eq10-clause-value : goal.returns-then-b-eq10-clause-value
returns-then-b-eq10-clause-value c = grind (arith, common_steps)
