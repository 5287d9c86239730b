use Rattle.std.proofs.Common.{rules}
use Rattle.eql_inputs.proofs.file.open_file.Goals as goal

pub returns-in-Ok-None-clause-shelf : goal.returns-in-Ok-None-clause-shelf
returns-in-Ok-None-clause-shelf g c = search rules
