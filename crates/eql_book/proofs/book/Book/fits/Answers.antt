use Rattle.eql_book.proofs.FitLemmas.{ledger_fits}
use Rattle.eql_book.proofs.book.Book.fits.Goals as goal

pub returns : goal.returns
returns c = rw (← c.self.view_is) (ledger_fits c.self.inside.ledger)
