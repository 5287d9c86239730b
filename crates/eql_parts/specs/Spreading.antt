-- Which part a key belongs to: the upper four bits of a hash of 64 bits.
use Rattle.std.specs.Prelude.{ℕ, ◌/◌, ◌^◌, List}
use Rattle.eql_values.specs.declared.value.Value.{Value}
use Rattle.eql_part.specs.Hashes.{key_hash}

-- the part of a key, from 0 to 15
abbrev pub part_number : List Value → ℕ
part_number key = key_hash key / 2 ^ 60
