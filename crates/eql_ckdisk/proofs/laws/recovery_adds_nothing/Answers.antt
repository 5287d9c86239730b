use Rattle.eql_ckdisk.proofs.RunLemmas.{recovery_adds_nothing}
use Rattle.eql_ckdisk.proofs.laws.recovery_adds_nothing.Goals as goal

pub returns : goal.returns
returns c = recovery_adds_nothing
