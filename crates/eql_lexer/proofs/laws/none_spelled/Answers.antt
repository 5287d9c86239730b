use Rattle.eql_lexer.proofs.Refusals.{none_spelled as law}
use Rattle.eql_lexer.proofs.laws.none_spelled.Goals as goal

pub returns : goal.returns
returns c = law
