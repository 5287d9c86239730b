use Rattle.eql_laws.proofs.KeptBooks as laws
use Rattle.eql_laws.proofs.books.found_is_few.Goals as goal

pub returns-clause-events : goal.returns-clause-events
returns-clause-events c = laws.belows_are_few

pub returns-clause-found : goal.returns-clause-found
returns-clause-found c = laws.found_is_few
