-- A hash of a key's values, of 64 bits.
use Rattle.std.specs.Prelude.{ℕ, ◌+◌, ◌*◌, ◌%◌, ◌^◌, List, if◌then◌else◌}
use Rattle.std.specs.Int.{cast_unsigned, w64}
use Rattle.std.specs.List.{fold}
use Rattle.eql_values.specs.declared.value.Value.{Value}
use Rattle.eql_values.specs.declared.value.Value.TheVariants.{Null, Bool as Truth, Long, Text, Ip}

-- the hash of what was hashed, and one number more: multiplied by 2^64 over the golden ratio, modulo 2^64
abbrev pub mixed_hash : (hash number : ℕ) → ℕ
mixed_hash hash number = ((hash + number) % 2 ^ 64) * 11400714819323198485 % 2 ^ 64

-- the hash of what was hashed, and one value more: its kind, and what it holds
abbrev pub value_hash : (hash : ℕ) → Value → ℕ
value_hash hash Null = mixed_hash hash 0
value_hash hash (Truth b) = mixed_hash (mixed_hash hash 1) (if b then 1 else 0)
value_hash hash (Long n) = mixed_hash (mixed_hash hash 2) (cast_unsigned w64 n)
value_hash hash (Text s) = fold mixed_hash (mixed_hash hash 3) s
value_hash hash (Ip n) = mixed_hash (mixed_hash hash 4) n

-- the hash of a key
abbrev pub key_hash : List Value → ℕ
key_hash key = fold value_hash 0 key
