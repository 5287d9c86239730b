-- When two characters compare as equal.
use Rattle.std.specs.Prelude.{ℕ, Bool, ◌==◌, if◌then◌else◌}
use Rattle.ucd_case.specs.CaseFolding.{simple_fold}

-- a character as comparisons see it: itself, or where they fold, its simple case folding
abbrev pub seen_char : Bool → ℕ → ℕ
seen_char fold c = if fold then simple_fold c else c

-- whether two characters compare as equal
unfoldable pub same : Bool → ℕ → ℕ → Bool
same fold c d = seen_char fold c == seen_char fold d
