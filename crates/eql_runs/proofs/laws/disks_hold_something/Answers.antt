use Rattle.eql_runs.proofs.OnDisks.{something_on_disk}
use Rattle.eql_runs.proofs.laws.disks_hold_something.Goals as goal

pub returns : goal.returns
returns c = something_on_disk c.texts_are_decided.ensures
