use Rattle.std.proofs.Common.{rules}
use Rattle.eql_outside.proofs.source.file.read_some.Goals as goal

pub returns-after-loop-clause-bytes : goal.returns-after-loop-clause-bytes
returns-after-loop-clause-bytes g c = search rules
