use Rattle.std.proofs.Common.{◌≡◌}
use Rattle.eql_digest.specs.Checksums.{divided_by_bits}
use Rattle.eql_digest.proofs.crc.entry.Given as goal

abbrev pub invariant-bits : goal.invariant-bits
invariant-bits l = l.rest ≡ divided_by_bits l.counter l.byte
