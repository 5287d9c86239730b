use Rattle.std.proofs.Common.{◌≡◌, take}
use Rattle.eql_digest.specs.Digests.{mixed}
use Rattle.eql_digest.proofs.digest.Digest.value.Given as goal

abbrev pub invariant-loop-lane : goal.invariant-loop-lane
invariant-loop-lane l = l.value ≡ mixed 0 (take l.lane-index l.self.lanes)
