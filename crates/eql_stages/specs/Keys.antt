-- Key fields as a reader has them, by their slots.
use Rattle.std.specs.Prelude.{Bool, not, ◌||◌, if◌then◌else◌, List, map, Some, None}
use Rattle.std.specs.List.{list_all}
use Rattle.eql_values.specs.declared.value.Value.{Value}
use Rattle.eql_check.specs.Comparisons.{is_null}
use Rattle.eql_check.specs.Truth.{value_in}
use Rattle.eql_stages.specs.Given.{Given}
use Rattle.eql_stages.specs.declared.keys.KeyField.{KeyField}

abbrev pub value_of : List Value → KeyField → Value
value_of slots field = value_in slots field.slot

-- the values of key fields, where the slots have these values
abbrev pub values_of : List Value → List KeyField → List Value
values_of slots fields = map (value_of slots) fields

-- the field isn't null, or it may be
abbrev pub is_given : List Value → KeyField → Bool
is_given slots field = not (is_null (value_of slots field)) || field.optional

-- the key that the fields give
abbrev pub key_by : List Value → List KeyField → Given
key_by slots fields = if list_all (is_given slots) fields then Some (values_of slots fields) else None
