use Rattle.eql_laws.proofs.KeptBooks as laws
use Rattle.eql_laws.proofs.books.book_fits.Goals as goal

pub returns-clause-fits : goal.returns-clause-fits
returns-clause-fits c = laws.book_of_fits

pub returns-clause-stands : goal.returns-clause-stands
returns-clause-stands c = laws.book_of_stands
