-- What a disk in memory tells.
use Rattle.std.specs.Prelude.{ℕ, List, [], map}
use Rattle.eql_outside.specs.Areas.{Write, Store, Moment, settled_store}
use Rattle.eql_outside.specs.Moments.{History}
use Rattle.eql_outside.specs.declared.disk.store.MemWrite.{MemWrite}
use Rattle.eql_outside.specs.declared.disk.store.MemStore.{MemStore}
use Rattle.eql_outside.specs.declared.disk.store.MemMoment.{MemMoment}

abbrev pub write_of : MemWrite → Write
write_of w = record { at = w.at; bytes = w.bytes.items }

abbrev pub store_of : MemStore → Store
store_of s = record { kept = s.kept.items; writes = map write_of s.writes.items; seen = s.seen.items }

abbrev pub moment_of : MemMoment → Moment
moment_of m = record { a = store_of m.a; b = store_of m.b }

-- a disk that holds these bytes, all of which are kept
abbrev pub fresh : List ℕ → List ℕ → History
fresh a b = record { now = record { a = settled_store a; b = settled_store b }; past = [] }
