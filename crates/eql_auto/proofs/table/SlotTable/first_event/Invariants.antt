use Rattle.std.proofs.Common.{◌≡◌, drop}
use Rattle.eql_auto.specs.Kept.{sequence_views}
use Rattle.eql_auto.specs.Starts.{first_event}
use Rattle.eql_auto.proofs.table.SlotTable.first_event.Given as goal

abbrev pub invariant-loop-slot : goal.invariant-loop-slot
invariant-loop-slot g l = first_event (sequence_views (drop l.slot-index l.slot-items)) ≡ first_event l.self
