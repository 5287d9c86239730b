use Rattle.std.proofs.Common.{rules}
use Rattle.eql_book.proofs.book.spoil.Goals as goal

pub returns-clause-whole : goal.returns-clause-whole
returns-clause-whole c = search rules
