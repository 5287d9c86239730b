use Rattle.std.proofs.Common.{◌≡◌, ◌≤◌, length, take}
use Rattle.eql_part.specs.Rooms.{rows_of}
use Rattle.eql_part.proofs.table.KeyTable.len.Given as goal

abbrev pub invariant-loop-room : goal.invariant-loop-room
invariant-loop-room g l = (l.count ≡ length (rows_of (take l.room-index l.self.rooms.items))) × (l.count ≤ l.room-index)
