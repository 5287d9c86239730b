use Rattle.std.proofs.Common.{rules}
use Rattle.eql_hub_run.proofs.gathering.stop_of.Goals as goal

pub returns-in-Read : goal.returns-in-Read
returns-in-Read c = search rules
