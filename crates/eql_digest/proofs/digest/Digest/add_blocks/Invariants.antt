use Rattle.std.proofs.Common.{◌≡◌, ◌<◌, ◌*◌, ◌+◌, ◌%◌, ◌^◌, length, take}
use Rattle.eql_digest.specs.Digests.{with_bytes}
use Rattle.eql_digest.proofs.Blocks.{made}
use Rattle.eql_digest.proofs.digest.Digest.add_blocks.Given as goal

abbrev pub invariant-loop-i : goal.invariant-loop-i
invariant-loop-i l =
    (0 < length l.bytes → l.fn.self.word ≡ 0) → with_bytes l.fn.self (take (l.i * 64) l.bytes) ≡ made l.lanes l.fn.self.word ((l.fn.self.length + l.i * 64) % 2 ^ 64)
