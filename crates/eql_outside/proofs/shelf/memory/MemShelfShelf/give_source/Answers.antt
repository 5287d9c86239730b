use Rattle.std.proofs.Common.{rules, refl}
use Rattle.eql_outside.proofs.shelf.memory.MemShelfShelf.give_source.Goals as goal

pub returns-in_default-clause-kept : goal.returns-in_default-clause-kept
returns-in_default-clause-kept c = refl

pub returns-in-Some-clause-faults_named : goal.returns-in-Some-clause-faults_named
returns-in-Some-clause-faults_named c = search rules
