use Rattle.std.proofs.Common.{◌≡◌, ◌++◌, map}
use Rattle.eql_auto.specs.Machine.{chains_to}
use Rattle.eql_auto.specs.Holding.{holder_of}
use Rattle.eql_auto.proofs.table.SlotTable.add_holders.Given as goal

abbrev pub invariant-loop-place : goal.invariant-loop-place
invariant-loop-place g l = l.found.items ≡ l.fn.found.items ++ map (holder_of l.key) (chains_to l.self l.place)
