-- Names of fields with their kinds, and when two lists of them are the same.
use Rattle.std.specs.Prelude.{ℕ, Bool, ◌&&◌, ◌==◌, List}
use Rattle.std.specs.Cmp.Lexicographic.{pointwise}
use Rattle.eql_values.specs.declared.value.Kind.{Kind}
use Rattle.eql_values.specs.declared.value.Kind.TheVariants as kind
use Rattle.eql_values.specs.Orders.{text_eq}

-- the place of a kind among the kinds
abbrev pub kind_place : Kind → ℕ
kind_place kind.Bool = 0
kind_place kind.Long = 1
kind_place kind.Text = 2
kind_place kind.Ip = 3

-- the name and the kind are the same
abbrev pub name_eq : List ℕ × Kind → List ℕ × Kind → Bool
name_eq x y = text_eq x.0 y.0 && (kind_place x.1 == kind_place y.1)

-- one by one the names and the kinds are the same, and there are as many
abbrev pub names_eq : List (List ℕ × Kind) → List (List ℕ × Kind) → Bool
names_eq = pointwise name_eq
