-- What a checked query promises of the values of its conditions.
use Rattle.std.specs.Prelude.{ℕ, List, Option, Some, IsTrue}
use Rattle.eql_values.specs.declared.value.Kind.{Kind}
use Rattle.eql_values.specs.declared.value.Kind.TheVariants as kind
use Rattle.eql_values.specs.declared.value.Value.{Value}
use Rattle.eql_query.specs.Tree.{Tree}
use Rattle.eql_query.specs.QueryTree.{QueryTree}
use Rattle.eql_values.specs.Fitting.{is_of, FitSlots}
use Rattle.eql_check.specs.Conditions.{IsConditionOf}
use Rattle.eql_check.specs.Typing.{HasKind}
use Rattle.eql_check.specs.Truth.{means, value_at}
use Rattle.eql_check.specs.Met.{all_met}

-- where each field has a value of its kind, or null, each expression means a value of its kind, or null
abbrev pub KeepsKinds : Type 0
KeepsKinds =
    (mapping : List ℕ → Option Kind) (field : List ℕ → Value) → ((name : List ℕ) → IsTrue (is_of (mapping name) (field name))) →
    (a : Tree) (k : Option Kind) → HasKind mapping a k → IsTrue (is_of k (means field a))

-- and each operator in an expression that has a kind takes the values that its operands mean
abbrev pub MeetsKinds : Type 0
MeetsKinds =
    (mapping : List ℕ → Option Kind) (field : List ℕ → Value) → ((name : List ℕ) → IsTrue (is_of (mapping name) (field name))) →
    (a : Tree) (k : Option Kind) → HasKind mapping a k → IsTrue (all_met field a)

-- a condition is true, false or null for all values that fit the fields
abbrev pub ConditionsAreBool : QueryTree → List (List ℕ × Kind) → Type 0
ConditionsAreBool query fields =
    (cond : Tree) (slots : List Value) → IsConditionOf cond query → FitSlots fields slots →
    IsTrue (is_of (Some kind.Bool) (means (value_at fields slots) cond))

-- and each operator in it takes the values that its operands mean
abbrev pub OperatorsMeetKinds : QueryTree → List (List ℕ × Kind) → Type 0
OperatorsMeetKinds query fields =
    (cond : Tree) (slots : List Value) → IsConditionOf cond query → FitSlots fields slots → IsTrue (all_met (value_at fields slots) cond)
