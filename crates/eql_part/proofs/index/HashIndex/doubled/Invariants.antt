use Rattle.std.proofs.Common.{◌≡◌, ◌*◌, length}
use Rattle.eql_part.proofs.Indexing.{IsDoubledTo}
use Rattle.eql_part.proofs.index.HashIndex.doubled.Given as goal

abbrev pub invariant-loop-bucket : goal.invariant-loop-bucket
invariant-loop-bucket l =
    (length l.buckets.items ≡ l.bucket-index * 2) × (l.count ≡ length l.self.buckets.items * 2) × IsDoubledTo l.self.buckets.items l.buckets.items
