use Rattle.std.proofs.Common.{rules}
use Rattle.eql_cli.proofs.tell.tell_end.Goals as goal

pub returns-clause-status : goal.returns-clause-status
returns-clause-status g c = search rules
