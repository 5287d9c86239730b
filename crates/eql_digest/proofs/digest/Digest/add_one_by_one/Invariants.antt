use Rattle.std.proofs.Common.{◌≡◌, take}
use Rattle.eql_digest.specs.Digests.{with_bytes}
use Rattle.eql_digest.proofs.digest.Digest.add_one_by_one.Given as goal

abbrev pub invariant-loop-byte : goal.invariant-loop-byte
invariant-loop-byte l = l.self ≡ with_bytes l.fn.self (take l.byte-index l.bytes)
