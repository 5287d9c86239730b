use Rattle.eql_laws.proofs.BelowLemmas as laws
use Rattle.eql_laws.proofs.belows.below_ascends.Goals as goal

pub returns-clause-sorted : goal.returns-clause-sorted
returns-clause-sorted c = laws.sorted_ascends

pub returns-clause-below : goal.returns-clause-below
returns-clause-below c = laws.below_ascends
