use Rattle.std.proofs.Common.{◌≡◌, ℕ, ◌<◌, length, slice_index}
use Rattle.eql_digest.specs.Checksums.{divided_by_bits}
use Rattle.eql_digest.proofs.crc.entries.Given as goal

abbrev pub invariant-loop-byte : goal.invariant-loop-byte
invariant-loop-byte l = (length l.table ≡ 256) × ((byte : ℕ) → byte < l.byte → slice_index l.table byte ≡ divided_by_bits 8 byte)
