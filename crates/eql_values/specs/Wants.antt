-- Want of memory.
use Rattle.eql_values.specs.declared.memory.Memory.{Memory}

-- the one value that says that memory ran out
abbrev pub memory : Memory
memory = record {}
