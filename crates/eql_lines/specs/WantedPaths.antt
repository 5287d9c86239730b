-- The paths of all that is wanted, in the order of their slots.
use Rattle.std.specs.Prelude.{ℕ, List, [], ◌∷◌, map, Option, Some, None, encode_utf8_all}
use Rattle.eql_lines.specs.Reading.{time_path, category_path}
use Rattle.eql_lines.specs.declared.wanted.Wanted.{Wanted}

-- where no tiebreaker is wanted the path is empty, which leads to nothing
abbrev pub tie_path : Option (List ℕ) → List ℕ
tie_path None = []
tie_path (Some name) = encode_utf8_all name

abbrev pub wanted_paths : Wanted → List (List ℕ)
wanted_paths w = time_path ∷ category_path ∷ tie_path w.tie ∷ map (λ f. encode_utf8_all f.0) w.fields
