use Rattle.std.proofs.Common.{rules}
use Rattle.eql_summary.proofs.texts.made.Goals as goal

pub returns : goal.returns
returns c = search rules
