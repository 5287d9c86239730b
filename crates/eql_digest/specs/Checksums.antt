-- The checksum of a text: CRC-64 with the polynomial of ECMA-182, reflected, as xz uses it (CRC-64/XZ). A text is a list of bytes.
use Rattle.std.specs.Prelude.{ℕ, zero, suc, ◌-◌, ◌*◌, ◌/◌, ◌%◌, ◌^◌, List, [], ◌∷◌, bit_xor}

-- the polynomial, its highest power as the lowest bit
abbrev pub polynomial : ℕ
polynomial = 0xC96C5795D7870F42

-- one bit is divided off: the rest moves down by one bit, and where a one falls out, the polynomial is taken away
abbrev pub divided : ℕ → ℕ
divided rest = bit_xor (rest / 2) (rest % 2 * polynomial)

-- some bits are divided off
unfoldable pub divided_by_bits : ℕ → ℕ → ℕ
divided_by_bits zero rest = rest
divided_by_bits (suc bits) rest = divided_by_bits bits (divided rest)

-- the rest after the bytes of a text: each comes to the low bits, and eight bits are divided off
unfoldable pub rest_after : ℕ → List ℕ → ℕ
rest_after rest [] = rest
rest_after rest (byte ∷ bytes) = rest_after (divided_by_bits 8 (bit_xor rest byte)) bytes

-- the rest begins with ones alone, and each of its bits is turned round at the end
abbrev pub checksum_of : List ℕ → ℕ
checksum_of bytes = bit_xor (rest_after (2 ^ 64 - 1) bytes) (2 ^ 64 - 1)
