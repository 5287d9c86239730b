use Rattle.eql_book.proofs.Wholes as laws
use Rattle.eql_book.proofs.laws.listing_is_whole.Goals as goal

pub returns-clause-fresh : goal.returns-clause-fresh
returns-clause-fresh c = laws.fresh_is_of_none

pub returns-clause-kept : goal.returns-clause-kept
returns-clause-kept c = laws.book_is_kept

pub returns-clause-end : goal.returns-clause-end
returns-clause-end c = laws.end_is_whole

pub returns-clause-whole : goal.returns-clause-whole
returns-clause-whole c = laws.listing_is_whole
