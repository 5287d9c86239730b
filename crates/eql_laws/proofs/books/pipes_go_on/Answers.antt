use Rattle.eql_laws.proofs.KeptBooks as laws
use Rattle.eql_laws.proofs.books.pipes_go_on.Goals as goal

pub returns-clause-inputs : goal.returns-clause-inputs
returns-clause-inputs c = laws.inputs_go_on

pub returns-clause-kept : goal.returns-clause-kept
returns-clause-kept c = laws.kept_pass
