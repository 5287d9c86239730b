use Rattle.std.proofs.Common.{rules}
use Rattle.eql_summary.proofs.texts.name_of.Goals as goal

pub returns-in-0 : goal.returns-in-0
returns-in-0 c = search rules
