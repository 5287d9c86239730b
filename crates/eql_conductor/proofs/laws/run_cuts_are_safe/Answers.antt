use Rattle.eql_conductor.proofs.OpenedCuts as laws
use Rattle.eql_conductor.proofs.laws.run_cuts_are_safe.Goals as goal

pub returns : goal.returns
returns c = laws.run_cuts_are_safe
