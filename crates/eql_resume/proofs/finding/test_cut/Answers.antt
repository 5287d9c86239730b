use Rattle.std.proofs.Common.{rules}
use Rattle.eql_resume.proofs.finding.test_cut.Goals as goal

pub returns-then-fits-clause-suits : goal.returns-then-fits-clause-suits
returns-then-fits-clause-suits c = search rules
