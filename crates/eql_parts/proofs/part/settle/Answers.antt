use Rattle.std.proofs.Common.{rules}
use Rattle.eql_parts.proofs.part.settle.Goals as goal

pub returns-clause-done : goal.returns-clause-done
returns-clause-done g c = search rules

pub returns-clause-waiting : goal.returns-clause-waiting
returns-clause-waiting g c = search rules
