use Rattle.std.proofs.Common.{◌≡◌, take, map}
use Rattle.eql_outside.specs.Disks.{moment_of}
use Rattle.eql_outside.proofs.disk.store.MemMoment.copy_all.Given as goal

abbrev pub invariant-loop-moment : goal.invariant-loop-moment
invariant-loop-moment l = map moment_of l.copies.items ≡ map moment_of (take l.moment-index l.moments)
