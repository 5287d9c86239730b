-- Comparisons, patterns and list tests (EQL syntax reference, "Comparison operators", "Pattern comparison keywords" and
-- "Lookup operators"). Where an operand is null, so is the result, but for `==` and `!=` beside the literal `null`. It is
-- null too where two values are of kinds that have no order between them, which doesn't come up in a checked query.
use Rattle.std.specs.Prelude.{ℕ, Bool, true, false, not, List, ◌&&◌, ◌==◌, Option, Some, None, if◌then◌else◌}
use Rattle.std.specs.Option.{option_map}
use Rattle.std.specs.List.{list_any}
use Rattle.std.specs.Ordering.{is_lt, is_le, is_eq, nat_cmp, int_cmp, bool_cmp}
use Rattle.std.specs.declared.cmp.Ordering.{Ordering}
use Rattle.eql_values.specs.declared.value.Value.{Value}
use Rattle.eql_values.specs.declared.value.Value.TheVariants as value
use Rattle.eql_values.specs.Orders.{text_cmp, value_eq}
use Rattle.eql_text.specs.Comparing.{equal}
use Rattle.eql_text.specs.Wildcards.{wildcard}
use Rattle.eql_text.specs.Addresses.{parse_ip4}
use Rattle.eql_query.specs.declared.expr.CmpOp.{CmpOp}
use Rattle.eql_query.specs.declared.expr.CmpOp.TheVariants.{Lt, Le, Eq, Ne, Ge, Gt}
use Rattle.eql_query.specs.declared.expr.PatOp.{PatOp}
use Rattle.eql_query.specs.declared.expr.PatOp.TheVariants.{Colon, Like, LikeFold}
use Rattle.eql_check.specs.ThreeValued.{truth}

abbrev pub is_null : Value → Bool
is_null value.Null = true
is_null _ = false

-- how two values of one kind are ordered: texts by their characters, and an address beside a text by the
-- address that the text writes
abbrev pub order_of : Value → Value → Option Ordering
order_of (value.Bool a) (value.Bool b) = Some (bool_cmp a b)
order_of (value.Long a) (value.Long b) = Some (int_cmp a b)
order_of (value.Text a) (value.Text b) = Some (text_cmp a b)
order_of (value.Ip a) (value.Ip b) = Some (nat_cmp a b)
order_of (value.Ip a) (value.Text t) = option_map (nat_cmp a) (parse_ip4 t)
order_of (value.Text t) (value.Ip b) = option_map (λ a. nat_cmp a b) (parse_ip4 t)
order_of _ _ = None

-- what a comparison says where its sides are ordered so
abbrev pub says : CmpOp → Ordering → Bool
says Lt o = is_lt o
says Le o = is_le o
says Eq o = is_eq o
says Ne o = not (is_eq o)
says Ge o = not (is_lt o)
says Gt o = not (is_le o)

abbrev pub comparison_value : CmpOp → Value → Value → Value
comparison_value op a b = truth (option_map (says op) (order_of a b))

-- a comparison with the literal `null` on a side: a value equals it exactly when it is null
abbrev pub compared_with_null : CmpOp → Value → Value → Value
compared_with_null Eq a b = value.Bool (is_null a && is_null b)
compared_with_null Ne a b = value.Bool (not (is_null a && is_null b))
compared_with_null _ a b = value.Null

-- a comparison, where the flag says that a side is the literal `null`
abbrev pub compares : Bool → CmpOp → Value → Value → Value
compares literal op a b = if literal then compared_with_null op a b else comparison_value op a b

-- whether a pattern operator folds
abbrev pub pattern_folds : PatOp → Bool
pattern_folds Colon = true
pattern_folds Like = false
pattern_folds LikeFold = true

-- whether a text fits one of the patterns
abbrev pub fits_one : Bool → List ℕ → List (List ℕ) → Bool
fits_one fold s patterns = list_any (λ pattern. wildcard fold pattern s) patterns

abbrev pub matches_one : PatOp → Value → List (List ℕ) → Value
matches_one op (value.Text s) patterns = value.Bool (fits_one (pattern_folds op) s patterns)
matches_one op _ patterns = value.Null

-- whether an address was read, and is this one
abbrev pub is_this_address : ℕ → Option ℕ → Bool
is_this_address a None = false
is_this_address a (Some b) = a == b

-- whether a value equals a literal of a list: texts with folding where it is asked for, an address where the
-- literal writes it, and every other value where the two are one and the same
abbrev pub is_literal : Bool → Value → Value → Bool
is_literal fold (value.Text a) (value.Text b) = equal fold a b
is_literal fold (value.Ip a) (value.Text t) = is_this_address a (parse_ip4 t)
is_literal fold a b = value_eq a b

abbrev pub is_one : Bool → Value → List Value → Bool
is_one fold v list = list_any (λ w. is_literal fold v w) list

-- `in`, and with the flag `negated` its `not`
abbrev pub is_among : (fold negated : Bool) → Value → List Value → Value
is_among fold negated value.Null list = value.Null
is_among fold negated v list = value.Bool (if negated then not (is_one fold v list) else is_one fold v list)
