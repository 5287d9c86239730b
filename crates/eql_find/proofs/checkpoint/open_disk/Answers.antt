use Rattle.std.proofs.Common.{rules}
use Rattle.eql_find.proofs.checkpoint.open_disk.Goals as goal

pub returns-in-Err-Held-clause-held : goal.returns-in-Err-Held-clause-held
returns-in-Err-Held-clause-held g c = search rules
