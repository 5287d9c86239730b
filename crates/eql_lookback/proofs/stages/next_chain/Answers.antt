use Rattle.std.proofs.Common.{rules}
use Rattle.eql_lookback.proofs.stages.next_chain.Goals as goal

pub returns-in_ok-followed_by-in-Some : goal.returns-in_ok-followed_by-in-Some
returns-in_ok-followed_by-in-Some c = search rules
