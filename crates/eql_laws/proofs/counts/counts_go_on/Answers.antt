use Rattle.eql_laws.proofs.CountsOn as laws
use Rattle.eql_laws.proofs.counts.counts_go_on.Goals as goal

pub returns-clause-late : goal.returns-clause-late
returns-clause-late c = laws.late_by_kept

pub returns-clause-texts : goal.returns-clause-texts
returns-clause-texts c = laws.counts_go_on

pub returns-clause-lines : goal.returns-clause-lines
returns-clause-lines c = laws.counts_step_on
