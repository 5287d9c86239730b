use Rattle.std.proofs.Common.{◌≡◌, ◌++◌, map, take, drop}
use Rattle.eql_part.specs.Indexed.{kept_at}
use Rattle.eql_part.proofs.index.keep_in.Given as goal

abbrev pub invariant-loop-slot : goal.invariant-loop-slot
invariant-loop-slot l = l.bucket ≡ map (kept_at l.number l.count) (take l.slot-index l.initial.bucket) ++ drop l.slot-index l.initial.bucket
