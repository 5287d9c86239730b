use Rattle.std.proofs.Common.{rules}
use Rattle.eql_hands.proofs.run.step_through.Goals as goal

pub returns-clause-steps : goal.returns-clause-steps
returns-clause-steps g c = search rules
