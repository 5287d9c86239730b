use Rattle.eql_check.proofs.Checking.{exactly_checked}
use Rattle.eql_check.proofs.laws.check_is_exact.Goals as goal

pub returns : goal.returns
returns c = exactly_checked
