use Rattle.eql_check.proofs.Keeping.{keeps_kinds}
use Rattle.eql_check.proofs.laws.kinds_are_kept.Goals as goal

pub returns : goal.returns
returns c = keeps_kinds
