-- The operators that stand after each operand of a list, by how many operations follow in the list; and those of comparisons.
use Rattle.std.specs.Prelude.{ℕ, true, false, Option, Some, None}
use Rattle.eql_values.specs.declared.value.Value.{Value}
use Rattle.eql_values.specs.declared.value.Value.TheVariants as value
use Rattle.eql_code.specs.declared.emit.Fold.{Fold}
use Rattle.eql_code.specs.declared.emit.Fold.TheVariants as how
use Rattle.eql_code.specs.declared.emit.Beside.{Beside}
use Rattle.eql_code.specs.declared.emit.Beside.TheVariants as side
use Rattle.eql_code.specs.declared.emit.Op.{Op}
use Rattle.eql_code.specs.declared.emit.Op.TheVariants as op

abbrev pub fold_op : Fold → ℕ → Op
fold_op how.And rest = op.And rest
fold_op how.Or rest = op.Or rest

-- what a list begins with
abbrev pub first_of : Fold → Value
first_of how.And = value.Bool true
first_of how.Or = value.Bool false

-- a comparison, by the operators of a right and of a left side that writes an address
abbrev pub beside : (on_right on_left : Option Op) → Op → Beside
beside (Some o) left plain = side.Right o
beside None (Some o) plain = side.Left o
beside None None plain = side.Neither plain
