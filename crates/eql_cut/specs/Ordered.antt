-- Lists whose values are their own keys.
use Rattle.std.specs.Prelude.{List, map}

-- each value with itself
abbrev pub with_itself : {A : Type 0} → List A → List (A × A)
with_itself {A} items = map (λ (x : A). (x, x)) items
