use Rattle.std.proofs.Common.{◌≡◌, take, map}
use Rattle.eql_outside.specs.Disks.{write_of}
use Rattle.eql_outside.proofs.disk.store.MemWrite.copy_all.Given as goal

abbrev pub invariant-loop-write : goal.invariant-loop-write
invariant-loop-write l = map write_of l.copies.items ≡ map write_of (take l.write-index l.writes)
