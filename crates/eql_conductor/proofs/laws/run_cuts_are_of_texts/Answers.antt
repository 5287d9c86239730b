use Rattle.eql_book.proofs.Wholes.{book_is_kept, end_is_whole}
use Rattle.eql_conductor.proofs.Listed as laws
use Rattle.eql_conductor.proofs.laws.run_cuts_are_of_texts.Goals as goal

pub returns-clause-texts : goal.returns-clause-texts
returns-clause-texts c = laws.run_cuts_are_of_texts book_is_kept end_is_whole

pub returns-clause-fitting : goal.returns-clause-fitting
returns-clause-fitting c = laws.run_cuts_fit book_is_kept end_is_whole
