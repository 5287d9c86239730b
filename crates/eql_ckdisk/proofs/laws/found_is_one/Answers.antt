use Rattle.eql_ckdisk.proofs.RunLemmas.{found_is_one}
use Rattle.eql_ckdisk.proofs.laws.found_is_one.Goals as goal

pub returns : goal.returns
returns c = found_is_one
