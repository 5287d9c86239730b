use Rattle.eql_laws.proofs.EventLemmas as laws
use Rattle.eql_laws.proofs.one_event.one_more_event.Goals as goal

pub returns-clause-after : goal.returns-clause-after
returns-clause-after c = laws.after_one

pub returns-clause-matches : goal.returns-clause-matches
returns-clause-matches c = laws.matches_one
