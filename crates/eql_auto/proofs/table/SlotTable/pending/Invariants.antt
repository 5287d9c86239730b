use Rattle.std.proofs.Common.{◌≡◌, ◌≤◌, ◌+◌, length, drop}
use Rattle.eql_auto.specs.Kept.{sequence_views}
use Rattle.eql_auto.specs.Machine.{tags_of}
use Rattle.eql_auto.proofs.table.SlotTable.pending.Given as goal

abbrev pub invariant-loop-slot : goal.invariant-loop-slot
invariant-loop-slot g l = record {
  most : l.count ≤ l.slot-index;
  left : l.count + length (tags_of (sequence_views (drop l.slot-index l.slot-items))) ≡ length (tags_of l.self);
}
