use Rattle.std.proofs.Common.{rules}
use Rattle.eql_outside.proofs.supply.Supply.of_opened.Goals as goal

pub returns-else-is_file-clause-other : goal.returns-else-is_file-clause-other
returns-else-is_file-clause-other c = search rules
