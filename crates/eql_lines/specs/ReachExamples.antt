-- What paths reach in lines, computed.
use Rattle.std.specs.Prelude.{◌≡◌, ℕ, pos, List, [], ◌∷◌, true, Option, Some, None, option_map, refl, codes}
use Rattle.std.specs.Str.{is_utf8, chars}
use Rattle.serde_json.proofs.OnLiterals.{serde_json_on_literals}
use Rattle.eql_lines.specs.Reach.{Scalar, text, whole, fractional, truth, reach}
use Rattle.eql_text.specs.Json.{json_of}

abbrev scalars_reached : List ℕ → List ℕ → Option (List Scalar)
scalars_reached path line = option_map (λ d. reach d path) (json_of line)

nested : scalars_reached (codes "user.name") (codes "{\"user\":{\"name\":\"u\",\"id\":1}}") ≡ Some (text (codes "u") ∷ [])
unfolding serde_json_on_literals is_utf8 chars
nested = refl

dotted : scalars_reached (codes "user.name") (codes "{\"user.name\":7}") ≡ Some (whole (pos 7) ∷ [])
unfolding serde_json_on_literals is_utf8 chars
dotted = refl

-- names are taken in the order of their bytes: `user` before `user.name`
mixed : scalars_reached (codes "user.name") (codes "{\"user.name\":7,\"user\":{\"name\":true}}") ≡ Some (truth true ∷ whole (pos 7) ∷ [])
unfolding serde_json_on_literals is_utf8 chars
mixed = refl

-- the last value of a repeated name stays
repeated : scalars_reached (codes "user.name") (codes "{\"user\":{\"name\":1},\"user\":{\"name\":1.5}}") ≡ Some (fractional ∷ [])
unfolding serde_json_on_literals is_utf8 chars
repeated = refl

replaced : scalars_reached (codes "user.name") (codes "{\"user\":{\"name\":1},\"user\":null}") ≡ Some []
unfolding serde_json_on_literals is_utf8 chars
replaced = refl

-- arrays spread, null reaches nothing, and an object is no scalar
spread : scalars_reached (codes "a.b") (codes "{\"a\":[{\"b\":[1,null,[2]]},3,{\"b\":{}}]}") ≡ Some (whole (pos 1) ∷ whole (pos 2) ∷ [])
unfolding serde_json_on_literals is_utf8 chars
spread = refl

-- a number too large for a float makes the line no JSON, wherever it stands
too_large : scalars_reached (codes "a") (codes "{\"a\":1,\"b\":1e999,\"b\":2}") ≡ None
unfolding serde_json_on_literals is_utf8 chars
too_large = refl

-- a path that ends in a dot goes on with nothing
ends_in_a_dot : scalars_reached (codes "a.") (codes "{\"a\":1}") ≡ Some (whole (pos 1) ∷ [])
unfolding serde_json_on_literals is_utf8 chars
ends_in_a_dot = refl
