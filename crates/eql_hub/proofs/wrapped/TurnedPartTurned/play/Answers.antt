use Rattle.std.proofs.Common.{rules}
use Rattle.eql_hub.proofs.wrapped.TurnedPartTurned.play.Goals as goal

pub returns : goal.returns
returns g c = search rules
