use Rattle.eql_ckdisk.proofs.RunLemmas.{never_older}
use Rattle.eql_ckdisk.proofs.laws.never_older.Goals as goal

pub returns : goal.returns
returns c = never_older
