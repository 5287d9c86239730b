-- What a pattern with wildcards fits.
use Rattle.std.specs.Prelude.{ℕ, Bool, false, List, [], ◌∷◌, ◌&&◌, ◌||◌, ◌==◌, if◌then◌else◌}
use Rattle.eql_text.specs.Folding.{same}
use Rattle.eql_text.specs.Comparing.{any_end, is_empty}

-- whether a character other than `*` in a pattern fits a character: `?` (63) fits each
abbrev pub fits : Bool → ℕ → ℕ → Bool
fits fold d c = d == 63 || same fold c d

-- whether the first character of a text is fitted by d, and what follows it passes a test
abbrev pub fits_first : Bool → ℕ → (List ℕ → Bool) → List ℕ → Bool
fits_first fold d test [] = false
fits_first fold d test (c ∷ t) = fits fold d c && test t

-- whether a pattern fits a whole text. An empty pattern fits the empty text. A `*` (42) fits any beginning,
-- so that the rest of the pattern has to fit some end. Every other character fits one character.
abbrev pub wildcard : Bool → List ℕ → List ℕ → Bool
wildcard fold [] t = is_empty t
wildcard fold (d ∷ p) t = if d == 42 then any_end (wildcard fold p) t else fits_first fold d (wildcard fold p) t
