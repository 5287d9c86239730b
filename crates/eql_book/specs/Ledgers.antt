-- What a ledger means: what a cut keeps of the output.
use Rattle.eql_values.specs.declared.cut.BookCut.{BookCut}
use Rattle.eql_book.specs.declared.ledger.Ledger.{Ledger}
use Rattle.eql_book.specs.Gates.{seen_of}

abbrev pub kept_of : Ledger → BookCut
kept_of ledger = record { found = ledger.found; listed = ledger.listed; pipes = seen_of ledger.gates.items }
