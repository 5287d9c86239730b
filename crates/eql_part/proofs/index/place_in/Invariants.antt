use Rattle.std.proofs.Common.{◌≡◌, drop}
use Rattle.eql_part.specs.Indexed.{place_in}
use Rattle.eql_part.proofs.index.place_in.Given as goal

abbrev pub invariant-loop-slot : goal.invariant-loop-slot
invariant-loop-slot l = place_in (drop l.slot-index l.bucket) l.hash ≡ place_in l.bucket l.hash
