use Rattle.std.proofs.Common.{rules}
use Rattle.eql_conductor.proofs.saving.keep_written.Goals as goal

pub returns-in-Ok-clause-kept : goal.returns-in-Ok-clause-kept
returns-in-Ok-clause-kept g c = search rules

pub returns-in-Ok-clause-faults : goal.returns-in-Ok-clause-faults
returns-in-Ok-clause-faults g c = record { silent = search rules; cause = search rules; steady = search rules; counts = search rules; unfailing = search rules }

pub returns-in-Err-Failed-clause-faults : goal.returns-in-Err-Failed-clause-faults
returns-in-Err-Failed-clause-faults g c = record { silent = search rules; cause = search rules; steady = search rules; counts = search rules; unfailing = search rules }

pub returns-in-Err-Memory-clause-faults : goal.returns-in-Err-Memory-clause-faults
returns-in-Err-Memory-clause-faults g c = record { silent = search rules; cause = search rules; steady = search rules; counts = search rules; unfailing = search rules }
