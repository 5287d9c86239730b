use Rattle.eql_check.proofs.Typing.{exactly_typed}
use Rattle.eql_check.proofs.laws.kinds_are_exact.Goals as goal

pub returns : goal.returns
returns c = exactly_typed
