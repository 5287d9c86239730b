use Rattle.std.proofs.Common.{rules}
use Rattle.eql_resume.proofs.beginning.Pending.place.Goals as goal

pub returns : goal.returns
returns c = search rules
