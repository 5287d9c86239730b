use Rattle.std.proofs.Common.{rules}
use Rattle.eql_outside.proofs.shelf.file.says_absent.Goals as goal

pub returns-in-NotFound : goal.returns-in-NotFound
returns-in-NotFound c = search rules
