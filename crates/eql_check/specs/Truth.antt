-- What an expression means, where each field has a value.
use Rattle.std.specs.Prelude.{ℕ, get_or, position, List, [], ◌∷◌, Bool, true, false, ◌||◌, Option, Some, None}
use Rattle.eql_values.specs.declared.value.Value.{Value}
use Rattle.eql_values.specs.declared.value.Value.TheVariants as value
use Rattle.eql_values.specs.declared.value.Kind.{Kind}
use Rattle.eql_values.specs.Orders.{text_eq}
use Rattle.eql_query.specs.Tree.{Tree, Trees, none, more}
use Rattle.eql_query.specs.Tree as t
use Rattle.eql_check.specs.declared.function.Function.{Function}
use Rattle.eql_check.specs.Names.{function_of}
use Rattle.eql_check.specs.ThreeValued.{truth, truth_in, is_true, negation, all_from, any_from}
use Rattle.eql_check.specs.Comparisons.{compares, matches_one, is_among}
use Rattle.eql_check.specs.Arithmetic.{math_value, negative_value}
use Rattle.eql_check.specs.Functions.{call_value}

-- the slot of a field among the used fields: its place, from 0
abbrev pub slot_of : List (List ℕ × Kind) → List ℕ → Option ℕ
slot_of fields name = position (λ f. text_eq f.0 name) fields

abbrev pub value_in : List Value → Option ℕ → Value
value_in slots None = value.Null
value_in slots (Some i) = get_or slots i value.Null

-- the value of a field: that of its slot, and null where it is no used field or its slot isn't there
abbrev pub value_at : List (List ℕ × Kind) → List Value → List ℕ → Value
value_at fields slots name = value_in slots (slot_of fields name)

abbrev pub is_literal_null : Tree → Bool
is_literal_null t.null = true
is_literal_null _ = false

-- a call of the function that a name names; null where it names none
abbrev pub call_of : Option Function → Bool → List Value → Value
call_of (Some f) fold vs = call_value f fold vs
call_of None fold vs = value.Null

module _ (field : List ℕ → Value) where
  abbrev mutual
    pub means : Tree → Value
    means t.null = value.Null
    means (t.bool b) = value.Bool b
    means (t.long n) = value.Long n
    means (t.str s) = value.Text s
    means (t.field name optional) = field name
    means (t.not a) = truth (negation (truth_in (means a)))
    means (t.and es) = truth (all_from (Some true) (values es))
    means (t.or es) = truth (any_from (Some false) (values es))
    means (t.cmp op a b) = compares (is_literal_null a || is_literal_null b) op (means a) (means b)
    means (t.pattern op a patterns) = matches_one op (means a) patterns
    means (t.member fold negated a list) = is_among fold negated (means a) list
    means (t.neg a) = negative_value (means a)
    means (t.math op a b) = math_value op (means a) (means b)
    means (t.call name fold args) = call_of (function_of name fold) fold (values args)

    -- the meanings of a list of expressions
    pub values : Trees → List Value
    values none = []
    values (more a es) = means a ∷ values es

  -- whether a condition is true: where it is false or null, it isn't
  abbrev pub holds : Tree → Bool
  holds cond = is_true (means cond)
