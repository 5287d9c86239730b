use Rattle.eql_laws.proofs.Distinct as laws
use Rattle.eql_laws.proofs.cuts.none_is_lost.Goals as goal

pub returns-clause-sorted : goal.returns-clause-sorted
returns-clause-sorted c = laws.sorted_keeps_all

pub returns-clause-below : goal.returns-clause-below
returns-clause-below c = laws.below_keeps_all
