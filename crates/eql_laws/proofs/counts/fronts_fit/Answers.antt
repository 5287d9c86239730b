use Rattle.eql_laws.proofs.Counted as laws
use Rattle.eql_laws.proofs.counts.fronts_fit.Goals as goal

pub returns-clause-within : goal.returns-clause-within
returns-clause-within c = laws.fronts_within

pub returns-clause-fit : goal.returns-clause-fit
returns-clause-fit c = laws.fronts_fit
