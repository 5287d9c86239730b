use Rattle.eql_laws.proofs.Resumed as laws
use Rattle.eql_laws.proofs.resuming.book_goes_on.Goals as goal

pub returns-clause-numbers : goal.returns-clause-numbers
returns-clause-numbers c = laws.numbered_goes_on

pub returns-clause-book : goal.returns-clause-book
returns-clause-book c = laws.book_goes_on
