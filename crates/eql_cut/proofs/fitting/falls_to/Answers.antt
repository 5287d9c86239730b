use Rattle.std.proofs.Common.{rules}
use Rattle.eql_cut.proofs.fitting.falls_to.Goals as goal

pub returns-else-ne : goal.returns-else-ne
returns-else-ne c = search rules
