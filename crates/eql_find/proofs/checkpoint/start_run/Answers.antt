use Rattle.eql_find.proofs.StartLemmas.{same_told}
use Rattle.eql_find.proofs.checkpoint.start_run.Goals as goal

pub returns-in-Ok-start_on-clause-moments : goal.returns-in-Ok-start_on-clause-moments
returns-in-Ok-start_on-clause-moments g c = same_told _ _ c.open_disk.ensures.history.0
