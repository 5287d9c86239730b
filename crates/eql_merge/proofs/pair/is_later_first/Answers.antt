use Rattle.std.proofs.Common.{rules}
use Rattle.eql_merge.proofs.pair.is_later_first.Goals as goal

pub returns-in-Some-None : goal.returns-in-Some-None
returns-in-Some-None g c = search rules
