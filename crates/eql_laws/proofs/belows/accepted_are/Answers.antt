use Rattle.eql_laws.proofs.BelowLemmas as laws
use Rattle.eql_laws.proofs.belows.accepted_are.Goals as goal

pub returns-clause-of_text : goal.returns-clause-of_text
returns-clause-of_text c = laws.accepted_of_text

pub returns-clause-below : goal.returns-clause-below
returns-clause-below c = laws.below_are
