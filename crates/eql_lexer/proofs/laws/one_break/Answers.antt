use Rattle.eql_lexer.proofs.Breaks.{one_break as law}
use Rattle.eql_lexer.proofs.laws.one_break.Goals as goal

pub returns : goal.returns
returns c = law
