use Rattle.std.proofs.Common.{take}
use Rattle.std.specs.Prelude.{All}
use Rattle.eql_part.specs.Rooms.{entries_of}
use Rattle.eql_part.specs.KeyTables.{IsIdle}
use Rattle.eql_part.proofs.routes.are_idle.Given as goal

abbrev pub invariant-loop-route : goal.invariant-loop-route
invariant-loop-route g l = All (IsIdle (entries_of l.machines)) (take l.route-index l.routes.items)
