use Rattle.std.proofs.Common.{rules}
use Rattle.eql_part.proofs.index.Slot.place.Goals as goal

pub returns-then-own-hash : goal.returns-then-own-hash
returns-then-own-hash c = search rules
