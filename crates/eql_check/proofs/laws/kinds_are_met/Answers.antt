use Rattle.eql_check.proofs.Meeting.{meets_kinds}
use Rattle.eql_check.proofs.laws.kinds_are_met.Goals as goal

pub returns : goal.returns
returns c = meets_kinds
