-- The kinds of values, and values that fit fields.
use Rattle.std.specs.Prelude.{ℕ, List, [], ◌∷◌, Bool, true, false, Option, Some, None, IsTrue}
use Rattle.eql_values.specs.declared.value.Kind.{Kind}
use Rattle.eql_values.specs.declared.value.Kind.TheVariants as kind
use Rattle.eql_values.specs.declared.value.Value.{Value}
use Rattle.eql_values.specs.declared.value.Value.TheVariants as value

abbrev pub same_kind : Kind → Kind → Bool
same_kind kind.Bool kind.Bool = true
same_kind kind.Long kind.Long = true
same_kind kind.Text kind.Text = true
same_kind kind.Ip kind.Ip = true
same_kind _ _ = false

-- where a kind is asked for, that kind may stand, and what is always null
abbrev pub may_be : Kind → Option Kind → Bool
may_be k None = true
may_be k (Some j) = same_kind k j

-- the kind of a value; null has none
abbrev pub kind_of_value : Value → Option Kind
kind_of_value value.Null = None
kind_of_value (value.Bool b) = Some kind.Bool
kind_of_value (value.Long n) = Some kind.Long
kind_of_value (value.Text s) = Some kind.Text
kind_of_value (value.Ip n) = Some kind.Ip

-- whether a value is null or of this kind
abbrev pub is_of : Option Kind → Value → Bool
is_of k value.Null = true
is_of None v = false
is_of (Some k) v = may_be k (kind_of_value v)

-- for each field a value of its kind, or null
abbrev pub FitSlots : List (List ℕ × Kind) → List Value → Type 0
FitSlots [] [] = Unit {0}
FitSlots (field ∷ fields) (value ∷ values) = IsTrue (is_of (Some field.1) value) × FitSlots fields values
FitSlots _ _ = ⊥
