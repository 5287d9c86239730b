use Rattle.eql_lexer.proofs.Whole.{spelled_or_broken as law}
use Rattle.eql_lexer.proofs.laws.spelled_or_broken.Goals as goal

pub returns : goal.returns
returns c = law
