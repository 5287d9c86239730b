use Rattle.eql_ckdisk.proofs.RunLemmas.{each_moment}
use Rattle.eql_ckdisk.proofs.laws.at_each_moment.Goals as goal

pub returns : goal.returns
returns c = each_moment
