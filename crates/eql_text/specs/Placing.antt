-- Where a text stands in another. Places count characters from 0.
use Rattle.std.specs.Prelude.{ℕ, ℤ, pos, negsuc, Bool, List, [], ◌∷◌, ◌+◌, Option, Some, None, length, drop, nat_le, if◌then◌else◌}
use Rattle.std.specs.Option.{option_map, option_or}
use Rattle.eql_text.specs.Comparing.{starts}

-- the first place at which t stands in s, where the first character of s has the place n
abbrev pub place_from : Bool → ℕ → List ℕ → List ℕ → Option ℕ
place_from fold n [] t = if starts fold [] t then Some n else None
place_from fold n (c ∷ s) t = if starts fold (c ∷ s) t then Some n else place_from fold (n + 1) s t

-- the last such place
abbrev pub last_place_from : Bool → ℕ → List ℕ → List ℕ → Option ℕ
last_place_from fold n [] t = if starts fold [] t then Some n else None
last_place_from fold n (c ∷ s) t =
    option_or (last_place_from fold (n + 1) s t) (if starts fold (c ∷ s) t then Some n else None)

-- where a search begins: a negative number counts as 0
abbrev pub start_place : ℤ → ℕ
start_place (pos n) = n
start_place (negsuc n) = 0

-- the least place at or after a start at which t stands in s, where the start isn't above the length
unfoldable pub place_after : Bool → List ℕ → List ℕ → ℕ → Option ℕ
place_after fold s t start = if nat_le start (length s) then place_from fold start (drop start s) t else None

abbrev pub index_of : Bool → List ℕ → List ℕ → ℤ → Option ℤ
index_of fold s t start = option_map pos (place_after fold s t (start_place start))
