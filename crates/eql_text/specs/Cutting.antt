-- Parts of a text.
use Rattle.std.specs.Prelude.{ℕ, ℤ, pos, negsuc, Bool, List, [], ◌+◌, ◌-◌, Option, Some, None, length, take, drop, min, unwrap_or, if◌then◌else◌}
use Rattle.std.specs.Option.{option_map, option_and_then}
use Rattle.eql_text.specs.Placing.{place_from, last_place_from}

-- the place that a number names in a text of this length: a negative number counts from the end, and
-- what lies outside is held at 0 or at the length
abbrev pub place_in : ℕ → ℤ → ℕ
place_in length (pos n) = min n length
place_in length (negsuc n) = length - (n + 1)

-- the place where a part ends: the length where no number is given
abbrev pub end_in : ℕ → Option ℤ → ℕ
end_in length None = length
end_in length (Some n) = place_in length n

-- the characters from one place up to and not including another
abbrev pub part : ℕ → ℕ → List ℕ → List ℕ
part from to s = take (to - from) (drop from s)

unfoldable pub substring : List ℕ → ℤ → Option ℤ → List ℕ
substring s from to = part (place_in (length s) from) (end_in (length s) to) s

-- what follows the first l in s
abbrev pub behind : Bool → List ℕ → List ℕ → Option (List ℕ)
behind fold s l = option_map (λ n. drop (n + length l) s) (place_from fold 0 s l)

-- the first place of t in s, or the last
abbrev pub place_sought : Bool → Bool → List ℕ → List ℕ → Option ℕ
place_sought greedy fold s t = if greedy then last_place_from fold 0 s t else place_from fold 0 s t

-- what stands before the first r in s, or before the last
abbrev pub before : Bool → Bool → List ℕ → List ℕ → Option (List ℕ)
before greedy fold s r = option_map (λ n. take n s) (place_sought greedy fold s r)

-- what stands between the first l and the first, or the last, r behind it; nothing where either isn't there
unfoldable pub between : List ℕ → List ℕ → List ℕ → Bool → Bool → List ℕ
between s l r greedy fold = unwrap_or (option_and_then (λ rest. before greedy fold rest r) (behind fold s l)) []
