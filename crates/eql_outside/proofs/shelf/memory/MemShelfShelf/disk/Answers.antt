use Rattle.std.proofs.Common.{Some, ap}
use Rattle.eql_outside.proofs.shelf.memory.MemShelfShelf.disk.Goals as goal

pub returns-clause-as_it_stands : goal.returns-clause-as_it_stands
returns-clause-as_it_stands c = let copied = c.in_ok-disk.ensures {u = tt} in (ap Some copied.history, copied.plan)
