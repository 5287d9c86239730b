-- Numbers read from texts.
use Rattle.std.specs.Prelude.{ℕ, ℤ, pos, neg_ℤ, false, List, [], ◌∷◌, ◌-◌, ◌^◌, min, Option, Some, None, drop, nat_lt, nat_le, ◌==◌, codes, if◌then◌else◌}
use Rattle.std.specs.List.{list_all}
use Rattle.std.specs.Char.{digit_value}
use Rattle.std.specs.Str.Parse.{digits_value}
use Rattle.eql_text.specs.Comparing.{starts}
use Rattle.eql_text.specs.declared.numbers.LongRead.{LongRead}
use Rattle.eql_text.specs.declared.numbers.LongRead.TheVariants as read

-- the number that one or more digits of a base write, letters being digits in either case
abbrev pub numeral : ℕ → List ℕ → Option ℕ
numeral base [] = None
numeral base (c ∷ s) =
    if list_all (λ d. nat_lt (digit_value d) base) (c ∷ s) then Some (digits_value base (c ∷ s)) else None

-- a number and its negation within 64 signed bits
abbrev pub positive : Option ℕ → LongRead
positive None = read.NoLong
positive (Some n) = if nat_lt n (2 ^ 63) then read.Long (pos n) else read.Range

abbrev pub negative : Option ℕ → LongRead
negative None = read.NoLong
negative (Some n) = if nat_le n (2 ^ 63) then read.Long (neg_ℤ (pos n)) else read.Range

-- an optional `-` (45), and decimal digits
abbrev pub parse_long : List ℕ → LongRead
parse_long [] = read.NoLong
parse_long (c ∷ s) = if c == 45 then negative (numeral 10 s) else positive (numeral 10 (c ∷ s))

-- the number that was read, if there is one
abbrev pub long_in : LongRead → Option ℤ
long_in (read.Long n) = Some n
long_in read.Range = None
long_in read.NoLong = None

-- `0x` and hexadecimal digits, or else a decimal number
unfoldable pub read_number : List ℕ → LongRead
read_number s = if starts false s (codes "0x") then positive (numeral 16 (drop 2 s)) else parse_long s

abbrev pub parse_number : List ℕ → Option ℤ
parse_number s = long_in (read_number s)

-- a number held at the greatest of 64 unsigned bits
abbrev pub capped_number : ℕ → ℕ
capped_number n = min n (2 ^ 64 - 1)
