use Rattle.eql_check.proofs.Connectives.{connectives}
use Rattle.eql_check.proofs.laws.connectives_read.Goals as goal

pub returns : goal.returns
returns c = connectives
