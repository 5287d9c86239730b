use Rattle.eql_laws.proofs.Kept as laws
use Rattle.eql_laws.proofs.lateness.best_goes_on.Goals as goal

pub returns-clause-first : goal.returns-clause-first
returns-clause-first c = laws.best_goes_on

pub returns-clause-kept : goal.returns-clause-kept
returns-clause-kept c = laws.best_from_goes_on
