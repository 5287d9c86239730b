use Rattle.eql_cut.proofs.Changed.{changes, turned}
use Rattle.eql_cut.proofs.keeping.changed_texts_are_found.Goals as goal

pub returns-clause-changes : goal.returns-clause-changes
returns-clause-changes c = changes c.bursts_are_found.ensures

pub returns-clause-bits : goal.returns-clause-bits
returns-clause-bits c = turned c.bursts_are_found.ensures
