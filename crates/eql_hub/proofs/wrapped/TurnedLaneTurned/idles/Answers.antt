use Rattle.std.proofs.Common.{rules}
use Rattle.eql_hub.proofs.wrapped.TurnedLaneTurned.idles.Goals as goal

pub returns-in_default : goal.returns-in_default
returns-in_default g c = search rules
