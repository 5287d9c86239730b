use Rattle.std.proofs.Common.{◌≡◌, ◌≤◌, map, take, vec_capacity}
use Rattle.std.specs.List.{AllAdjacentBelow}
use Rattle.eql_part.specs.declared.copies.TheConstants.{AHEAD}
use Rattle.eql_part.specs.KeyTables.{holders_in}
use Rattle.eql_part.specs.Rooms.{NoneIsBefore, lent_entry}
use Rattle.eql_part.proofs.copies.copy_in_order.Given as goal

abbrev pub invariant-loop-place : goal.invariant-loop-place
invariant-loop-place g l = record {
  copies : l.found.items ≡ holders_in (map lent_entry (take l.place l.rows.items));
  order : AllAdjacentBelow NoneIsBefore l.rows.items l.place;
  room : AHEAD ≤ vec_capacity l.read;
}
