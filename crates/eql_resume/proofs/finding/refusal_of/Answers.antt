use Rattle.std.proofs.Common.{rules}
use Rattle.eql_resume.proofs.finding.refusal_of.Goals as goal

pub returns-in-DiskFault : goal.returns-in-DiskFault
returns-in-DiskFault c = search rules
