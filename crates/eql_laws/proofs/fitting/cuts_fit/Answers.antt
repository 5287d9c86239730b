use Rattle.eql_laws.proofs.KeptCuts as laws
use Rattle.eql_laws.proofs.fitting.cuts_fit.Goals as goal

pub returns-clause-fit : goal.returns-clause-fit
returns-clause-fit c = laws.cuts_fit

pub returns-clause-stand : goal.returns-clause-stand
returns-clause-stand c = laws.cuts_stand
