-- What the cells of a stack stand for, and what a code gives.
use Rattle.std.specs.Prelude.{◌≡◌, ℕ, List, [], ◌∷◌, map, reverse, Bool, true, false, not, ◌&&◌, Option, Some, get_or}
use Rattle.eql_values.specs.declared.value.Value.{Value}
use Rattle.eql_values.specs.declared.value.Value.TheVariants as value
use Rattle.eql_check.specs.Functions as f
use Rattle.eql_code.specs.declared.emit.Op.{Op}
use Rattle.eql_code.specs.declared.emit.Op.TheVariants as op
use Rattle.eql_code.specs.declared.cells.Cell.{Cell}
use Rattle.eql_code.specs.declared.cells.Cell.TheVariants as cell
use Rattle.eql_code.specs.Machine.{runs}

abbrev pub pushed_value : Op → Value
pushed_value (op.Push v) = v
pushed_value _ = value.Null

-- the value of a cell: its own, that of a slot, or that of a constant in the code
abbrev pub cell_value : List Op → List Value → Cell → Value
cell_value ops slots (cell.Made v) = v
cell_value ops slots (cell.Slot i) = get_or slots i value.Null
cell_value ops slots (cell.Here k) = pushed_value (get_or ops k op.Not)

-- the topmost first
abbrev pub stack_of : List Op → List Value → List Cell → List Value
stack_of ops slots cells = reverse (map (cell_value ops slots) cells)

-- whether an operation makes a text: a call of `concat`, `substring`, `between` or `string`
abbrev pub makes_text : Op → Bool
makes_text (op.Call function fold n) = f.makes_text function
makes_text _ = false

-- whether no operation makes a text
abbrev pub is_free : List Op → Bool
is_free [] = true
is_free (o ∷ os) = not (makes_text o) && is_free os

abbrev pub is_text : Value → Bool
is_text (value.Text t) = true
is_text _ = false

-- the one value of a stack; null where there is no such stack, or other than one value on it
abbrev pub top_of : Option (List Value) → Value
top_of (Some (v ∷ [])) = v
top_of _ = value.Null

-- a code as its users see it: its operations, and the depth of the stack that it needs
abbrev pub Compiled : Type 0
Compiled = List Op × ℕ

-- what a code gives where the slots have these values
abbrev pub gives : Compiled → List Value → Value
gives c slots = top_of (runs slots c.1 0 c.0 [])

-- no operand is missing, no stack is deeper than the depth, and nothing is passed over beyond the end
abbrev pub IsSound : Compiled → Type 0
IsSound c = (slots : List Value) → runs slots c.1 0 c.0 [] ≡ Some (gives c slots ∷ [])
