use Rattle.eql_laws.proofs.EventLemmas as laws
use Rattle.eql_laws.proofs.one_event.after_looks_up.Goals as goal

pub returns-clause-there : goal.returns-clause-there
returns-clause-there c = laws.after_looks_up

pub returns-clause-no_other : goal.returns-clause-no_other
returns-clause-no_other c = laws.after_has_no_other
