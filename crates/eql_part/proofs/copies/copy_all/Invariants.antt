use Rattle.std.proofs.Common.{◌≡◌, map, take}
use Rattle.eql_part.specs.KeyTables.{holders_in}
use Rattle.eql_part.specs.Rooms.{lent_entry}
use Rattle.eql_part.proofs.copies.copy_all.Given as goal

abbrev pub invariant-loop-row : goal.invariant-loop-row
invariant-loop-row g l = l.found.items ≡ holders_in (map lent_entry (take l.row-index l.rows.items))
