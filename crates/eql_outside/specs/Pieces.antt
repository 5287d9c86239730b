-- How much a source in memory gives at a time.
use Rattle.std.specs.Prelude.{ℕ}
use Rattle.eql_outside.specs.declared.source.memory.MemSource.{MemSource}

-- the most bytes that one take gives
abbrev pub piece_of : MemSource → ℕ
piece_of source = source.piece
