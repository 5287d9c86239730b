use Rattle.std.proofs.Common.{◌≡◌, ◌++◌, map, take, drop}
use Rattle.eql_part.specs.Indexed.{slot_without}
use Rattle.eql_part.proofs.index.clear_in.Given as goal

abbrev pub invariant-loop-slot : goal.invariant-loop-slot
invariant-loop-slot l = l.bucket ≡ map (slot_without l.hash) (take l.slot-index l.initial.bucket) ++ drop l.slot-index l.initial.bucket
