-- Numbers and times in words.
use Rattle.std.specs.Prelude.{ℕ, ◌*◌, ◌-◌, ◌&&◌, nat_lt, nat_le, nat_eq, if◌then◌else◌, length, take, Option, Some, None, option_map, codes}
use Rattle.std.specs.List.{ends_with}
use Rattle.std.specs.Option.{option_and_then, option_or}
use Rattle.std.specs.Str.{all_ascii_digits}
use Rattle.std.specs.Str.Parse.{digits_value}
use Rattle.eql_words.specs.Words.{Word}

-- the number that one to `most` decimal digits write; the first ones may be zeros
abbrev pub number_of : ℕ → Word → Option ℕ
number_of most word =
    if nat_lt 0 (length word) && nat_le (length word) most && all_ascii_digits word
    then Some (digits_value 10 word) else None

-- a number from `least` to `most`
abbrev pub within : ℕ → ℕ → ℕ → Option ℕ
within least most n = if nat_le least n && nat_le n most then Some n else None

-- the number from `least` to `most` that one to seven digits write
abbrev pub number_in : ℕ → ℕ → Word → Option ℕ
number_in least most word = option_and_then (within least most) (number_of 7 word)

-- the milliseconds of one to ten digits and a unit that has so many of them
abbrev pub in_unit : Word → ℕ → Word → Option ℕ
in_unit unit each word =
    if ends_with nat_eq word unit
    then option_map (λ n. n * each) (number_of 10 (take (length word - length unit) word)) else None

-- the milliseconds of a time: milliseconds, seconds, minutes, hours or days
abbrev pub milliseconds_of : Word → Option ℕ
milliseconds_of word =
    option_or (in_unit (codes "ms") 1 word) (
    option_or (in_unit (codes "s") 1000 word) (
    option_or (in_unit (codes "m") 60000 word) (
    option_or (in_unit (codes "h") 3600000 word) (
    in_unit (codes "d") 86400000 word))))

-- the milliseconds of a time of at most 36,500 days
abbrev pub time_of : Word → Option ℕ
time_of word = option_and_then (within 0 3153600000000) (milliseconds_of word)
