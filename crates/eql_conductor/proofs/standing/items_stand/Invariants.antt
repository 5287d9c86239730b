use Rattle.std.specs.Prelude.{All, take}
use Rattle.eql_conductor.specs.Snaps.{ItemStands}
use Rattle.eql_conductor.proofs.standing.items_stand.Given as goal

abbrev pub invariant-loop-item : goal.invariant-loop-item
invariant-loop-item l = All ItemStands (take l.item-index l.items)
