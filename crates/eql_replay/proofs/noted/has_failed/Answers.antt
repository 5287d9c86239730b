use Rattle.std.proofs.Common.{rules}
use Rattle.eql_replay.proofs.noted.has_failed.Goals as goal

pub returns-in-Failed : goal.returns-in-Failed
returns-in-Failed c = search rules
