use Rattle.std.proofs.Common.{rules}
use Rattle.eql_merge.proofs.ranked.ItemRanked.is_before.Goals as goal

pub returns : goal.returns
returns c = search rules
