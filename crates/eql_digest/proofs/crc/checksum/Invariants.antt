use Rattle.std.proofs.Common.{◌≡◌, ◌-◌, ◌^◌, take}
use Rattle.eql_digest.specs.Checksums.{rest_after}
use Rattle.eql_digest.proofs.crc.checksum.Given as goal

abbrev pub invariant-loop-byte : goal.invariant-loop-byte
invariant-loop-byte l = l.rest ≡ rest_after (2 ^ 64 - 1) (take l.byte-index l.bytes)
