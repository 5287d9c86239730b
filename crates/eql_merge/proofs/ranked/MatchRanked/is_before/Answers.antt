use Rattle.std.proofs.Common.{rules}
use Rattle.eql_merge.proofs.ranked.MatchRanked.is_before.Goals as goal

pub returns-in-Equal : goal.returns-in-Equal
returns-in-Equal c = search rules
