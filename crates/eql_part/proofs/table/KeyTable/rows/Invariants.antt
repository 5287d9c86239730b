use Rattle.std.proofs.Common.{◌≡◌, map, take}
use Rattle.eql_part.specs.Rooms.{lent_entry, rows_of}
use Rattle.eql_part.proofs.table.KeyTable.rows.Given as goal

abbrev pub invariant-loop-room : goal.invariant-loop-room
invariant-loop-room g l = map lent_entry l.rows.items ≡ rows_of (take l.room-index l.self.rooms.items)
