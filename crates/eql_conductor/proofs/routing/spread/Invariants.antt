use Rattle.std.specs.Prelude.{take}
use Rattle.eql_conductor.specs.PartLists.{AreSpread}
use Rattle.eql_conductor.proofs.routing.spread.Given as goal

abbrev pub invariant-loop-item : goal.invariant-loop-item
invariant-loop-item l = AreSpread (take l.item-index l.items) l.lists.items
