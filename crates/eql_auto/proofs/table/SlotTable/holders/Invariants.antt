use Rattle.std.proofs.Common.{◌≡◌}
use Rattle.eql_auto.specs.Machine.{chains_to}
use Rattle.eql_auto.proofs.table.SlotTable.holders.Given as goal

abbrev pub invariant-loop-place : goal.invariant-loop-place
invariant-loop-place g l = l.found.items ≡ chains_to l.self l.place
