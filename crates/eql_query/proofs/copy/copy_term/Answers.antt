use Rattle.std.proofs.Common.{rules}
use Rattle.eql_query.proofs.copy.copy_term.Goals as goal

pub returns : goal.returns
returns c = search rules
