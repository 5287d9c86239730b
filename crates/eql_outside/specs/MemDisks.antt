-- The moments of a disk in memory.
use Rattle.std.specs.Prelude.{map}
use Rattle.eql_outside.specs.Areas.{Moment}
use Rattle.eql_outside.specs.Moments.{History}
use Rattle.eql_outside.specs.Disks.{moment_of}
use Rattle.eql_outside.specs.declared.disk.memory.MemDisk.{MemDisk}

abbrev pub now_of : MemDisk → Moment
now_of d = moment_of d.areas

abbrev pub history_of : MemDisk → History
history_of d = record { now = now_of d; past = map moment_of d.past.items }
