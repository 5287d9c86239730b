-- The bytes of a text.
use Rattle.std.specs.Prelude.{ℕ, List, string_bytes}
use Rattle.eql_values.specs.declared.text.Bytes.{Bytes}
use Rattle.eql_values.specs.declared.text.Bytes.TheVariants as bytes

-- they stand in the text itself, or apart
abbrev pub bytes_of : Bytes → List ℕ
bytes_of (bytes.Here short alloc) = short.bytes
bytes_of (bytes.Apart long) = string_bytes long
