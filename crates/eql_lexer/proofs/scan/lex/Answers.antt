use Rattle.std.proofs.Common.{arith}
use Rattle.std.proofs.lemmas.Grind.{common_steps}
use Rattle.eql_lexer.proofs.Refusals.{answered}
use Rattle.eql_lexer.proofs.scan.lex.Goals as goal

pub returns-clause-spelled : goal.returns-clause-spelled
returns-clause-spelled c = λ tokens s short u. answered _ _ short u c.tokens_of.ensures.found c.tokens_of.ensures.refused tokens s

pub returns-clause-refused : goal.returns-clause-refused
returns-clause-refused c = grind (arith, common_steps)
