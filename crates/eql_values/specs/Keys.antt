-- The values of a key.
use Rattle.std.specs.Prelude.{List, [], ◌∷◌}
use Rattle.eql_values.specs.declared.value.KeyValues.{KeyValues}
use Rattle.eql_values.specs.declared.value.KeyValues.TheVariants as values
use Rattle.eql_values.specs.declared.value.Value.{Value}

-- one stands alone, or they stand in a list
abbrev pub values_of : KeyValues → List Value
values_of (values.One value) = value ∷ []
values_of (values.Many values) = values.items
