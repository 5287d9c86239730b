use Rattle.eql_lexer.proofs.Unique.{one_list as law}
use Rattle.eql_lexer.proofs.laws.one_list.Goals as goal

pub returns : goal.returns
returns c = law
