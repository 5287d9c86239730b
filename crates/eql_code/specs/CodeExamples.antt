-- Worked examples of code and of its runs, computed.
use Rattle.std.specs.Prelude.{◌≡◌, ℕ, List, [], ◌∷◌, true, false, Some, None, refl, codes}
use Rattle.eql_values.specs.declared.value.Value.{Value}
use Rattle.eql_values.specs.declared.value.Value.TheVariants as value
use Rattle.eql_values.specs.declared.value.Kind.{Kind}
use Rattle.eql_values.specs.declared.value.Kind.TheVariants as kind
use Rattle.eql_query.specs.Tree.{Tree, none, more}
use Rattle.eql_query.specs.Tree as t
use Rattle.eql_code.specs.declared.emit.Op.{Op}
use Rattle.eql_code.specs.declared.emit.Op.TheVariants as op
use Rattle.eql_code.specs.Machine.{runs}
use Rattle.eql_code.specs.Code.{code, depth}

-- `x and not y and z`
abbrev fields : List (List ℕ × Kind)
fields = (codes "x", kind.Bool) ∷ (codes "y", kind.Bool) ∷ (codes "z", kind.Bool) ∷ []

abbrev field : List ℕ → Tree
field name = t.field name false

abbrev three : Tree
three = t.and (more (field (codes "x")) (more (t.not (field (codes "y"))) (more (field (codes "z")) none)))

abbrev code_of_three : List Op
code_of_three =
    op.Push (value.Bool true) ∷ op.Slot 0 ∷ op.And 5 ∷ op.Slot 1 ∷ op.Not ∷ op.And 2 ∷ op.Slot 2 ∷ op.And 0 ∷ []

three_as_code : code fields three ≡ code_of_three
unfolding lib.Utf8.encode
three_as_code = refl

two_values_deep : depth three ≡ 2
two_values_deep = refl

all_true : runs (value.Bool true ∷ value.Bool false ∷ value.Bool true ∷ []) 2 0 code_of_three [] ≡ Some (value.Bool true ∷ [])
all_true = refl

first_is_false : (y z : Value) → runs (value.Bool false ∷ y ∷ z ∷ []) 2 0 code_of_three [] ≡ Some (value.Bool false ∷ [])
first_is_false y z = refl

null_goes_on : runs (value.Null ∷ value.Bool false ∷ value.Bool false ∷ []) 2 0 code_of_three [] ≡ Some (value.Bool false ∷ [])
null_goes_on = refl

-- where the first operand decides, whatever stands for the rest of the list doesn't run
false_and : (a b : Op) → runs [] 2 0 (op.Push (value.Bool true) ∷ op.Push (value.Bool false) ∷ op.And 2 ∷ a ∷ b ∷ []) [] ≡ Some (value.Bool false ∷ [])
false_and a b = refl

true_or : (a b : Op) → runs [] 2 0 (op.Push (value.Bool false) ∷ op.Push (value.Bool true) ∷ op.Or 2 ∷ a ∷ b ∷ []) [] ≡ Some (value.Bool true ∷ [])
true_or a b = refl

-- past the end there is nothing to go on with
one_too_far : (a b : Op) → runs [] 2 0 (op.Push (value.Bool true) ∷ op.Push (value.Bool false) ∷ op.And 3 ∷ a ∷ b ∷ []) [] ≡ None
one_too_far a b = refl
