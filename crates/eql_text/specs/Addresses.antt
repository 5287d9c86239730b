-- IPv4 addresses and blocks of them.
use Rattle.std.specs.Prelude.{ℕ, Bool, false, List, [], ◌∷◌, ◌+◌, ◌-◌, ◌*◌, ◌/◌, ◌^◌, Option, Some, None, map, nat_le, ◌==◌, ◌&&◌, not, if◌then◌else◌}
use Rattle.eql_text.specs.Comparing.{is_empty}
use Rattle.eql_text.specs.Numbers.{numeral}
use Rattle.eql_text.specs.declared.addresses.Block.{Block}

-- a character put before the first of some parts
abbrev pub into_first : ℕ → List (List ℕ) → List (List ℕ)
into_first c [] = []
into_first c (p ∷ ps) = (c ∷ p) ∷ ps

-- the parts of a text between separators, of which there is one at least
abbrev pub parts : ℕ → List ℕ → List (List ℕ)
parts separator [] = [] ∷ []
parts separator (c ∷ s) = if c == separator then [] ∷ parts separator s else into_first c (parts separator s)

-- whether a numeral begins with a zero (48) that it doesn't need
abbrev pub has_spare_zero : List ℕ → Bool
has_spare_zero [] = false
has_spare_zero (c ∷ s) = c == 48 && not (is_empty s)

-- a number where it is at most `most`
abbrev pub at_most : ℕ → Option ℕ → Option ℕ
at_most most None = None
at_most most (Some n) = if nat_le n most then Some n else None

-- a number from 0 to `most` in decimal digits, without superfluous leading zeros
unfoldable pub plain : ℕ → List ℕ → Option ℕ
plain most s = if has_spare_zero s then None else at_most most (numeral 10 s)

-- the address of four numbers, the first of which counts most
abbrev pub address : List (Option ℕ) → Option ℕ
address (Some a ∷ Some b ∷ Some c ∷ Some d ∷ []) = Some (a * 2 ^ 24 + b * 2 ^ 16 + c * 2 ^ 8 + d)
address _ = None

-- four numbers from 0 to 255 with dots (46) between
unfoldable pub parse_ip4 : List ℕ → Option ℕ
parse_ip4 s = address (map (plain 255) (parts 46 s))

abbrev pub block : Option ℕ → Option ℕ → Option Block
block (Some base) (Some bits) = Some (record { base = base; bits = bits })
block _ _ = None

abbrev pub block_of : List (List ℕ) → Option Block
block_of (a ∷ b ∷ []) = block (parse_ip4 a) (plain 32 b)
block_of _ = None

-- an address, a `/` (47) and a number of bits from 0 to 32
unfoldable pub parse_block : List ℕ → Option Block
parse_block s = block_of (parts 47 s)

-- whether the first bits of an address are those of the block
unfoldable pub in_block : ℕ → Block → Bool
in_block ip b = ip / 2 ^ (32 - b.bits) == b.base / 2 ^ (32 - b.bits)
