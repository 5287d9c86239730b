-- How fields are entered one by one, as the code does.
use Rattle.std.specs.Prelude.{ℕ, List, [], ◌∷◌, Option, Some, None, if◌then◌else◌}
use Rattle.eql_values.specs.declared.value.Kind.{Kind}
use Rattle.eql_values.specs.Orders.{text_eq}

-- the fields after one more use of a field: one that is there keeps its place
abbrev pub use_field : List (List ℕ × Kind) → List ℕ → Kind → List (List ℕ × Kind)
use_field [] name k = (name, k) ∷ []
use_field (field ∷ fields) name k = if text_eq name field.0 then (field.0, k) ∷ fields else field ∷ use_field fields name k

-- a name that the mapping doesn't have is no used field
abbrev pub use_if : Option Kind → List (List ℕ × Kind) → List ℕ → List (List ℕ × Kind)
use_if None fields name = fields
use_if (Some k) fields name = use_field fields name k

-- the fields after some more names
abbrev pub used_after : (List ℕ → Option Kind) → List (List ℕ × Kind) → List (List ℕ) → List (List ℕ × Kind)
used_after mapping fields [] = fields
used_after mapping fields (name ∷ names) = used_after mapping (use_if (mapping name) fields name) names
