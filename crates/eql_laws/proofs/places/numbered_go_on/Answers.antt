use Rattle.eql_laws.proofs.LineLemmas as laws
use Rattle.eql_laws.proofs.places.numbered_go_on.Goals as goal

pub returns-clause-lines : goal.returns-clause-lines
returns-clause-lines c = laws.numbered_go_on

pub returns-clause-one : goal.returns-clause-one
returns-clause-one c = laws.lines_are_one

pub returns-clause-end : goal.returns-clause-end
returns-clause-end c = laws.lines_end_on
