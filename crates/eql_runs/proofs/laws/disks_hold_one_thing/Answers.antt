use Rattle.eql_runs.proofs.OnDisks.{one_on_disk}
use Rattle.eql_runs.proofs.laws.disks_hold_one_thing.Goals as goal

pub returns : goal.returns
returns c = one_on_disk
