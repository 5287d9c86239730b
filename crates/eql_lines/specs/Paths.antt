-- How far a place in a line has come along each path.
use Rattle.std.specs.Prelude.{◌≡◌, ℕ, List, drop, Option, None, if◌then◌else◌, string_bytes, slice_get, option_map, String}
use Rattle.std.specs.declared.alloc.Global.{Global}
use Rattle.eql_lines.specs.Reach.{Scalar, over}
use Rattle.eql_lines.specs.Found.{found_all, found_at}
use Rattle.eql_lines.specs.Places.{in_set}
use Rattle.eql_lines.specs.declared.paths.Active.{Active}
use Rattle.eql_lines.specs.declared.slots.Slot.{Slot}

-- the path of this place, if there is one
abbrev pub path_at : List (String Global) → ℕ → Option (List ℕ)
path_at paths i = option_map string_bytes (slice_get paths i)

-- what is left of the path of this place, if the value may add to it
abbrev pub rest_at : List (String Global) → Active → ℕ → Option (List ℕ)
rest_at paths a i = if in_set a.places i then option_map (λ s. drop a.at (string_bytes s)) (slice_get paths i) else None

-- each slot has gained what its path reaches
abbrev pub Gains : List (String Global) → Active → (List ℕ → List Scalar) → List Slot → List Slot → Type 0
Gains paths a f old new = (i : ℕ) → found_at new i ≡ found_all (found_at old i) (over f (rest_at paths a i))
