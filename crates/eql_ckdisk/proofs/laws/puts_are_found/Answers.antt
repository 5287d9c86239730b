use Rattle.eql_ckdisk.proofs.RunLemmas.{puts_found}
use Rattle.eql_ckdisk.proofs.laws.puts_are_found.Goals as goal

pub returns : goal.returns
returns c = puts_found
