use Rattle.eql_book.proofs.Wholes as laws
use Rattle.eql_book.proofs.laws.adds_go_on.Goals as goal

pub returns : goal.returns
returns c = laws.adds_go_on
