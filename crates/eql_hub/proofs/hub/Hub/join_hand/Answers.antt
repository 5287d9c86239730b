use Rattle.std.proofs.Common.{rules}
use Rattle.eql_hub.proofs.hub.Hub.join_hand.Goals as goal

pub returns-clause-parts : goal.returns-clause-parts
returns-clause-parts g c = search rules
